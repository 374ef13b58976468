use mathlib.Core.Path.{refl}
use Rattle.reader_bytes.specs.Bytes.{premises_of}
use Rattle.reader_bytes.proofs.premises_of.Goals as goal

pub returns : goal.returns
unfolding premises_of
returns c = refl
