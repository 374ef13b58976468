use mathlib.Core.Path.{refl}
use Rattle.reader_bytes.specs.Bytes.{parts_of}
use Rattle.reader_bytes.proofs.parts_of.Goals as goal

pub returns : goal.returns
unfolding parts_of
returns c = refl
