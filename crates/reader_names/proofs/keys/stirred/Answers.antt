use mathlib.Core.Path.{refl}
use Rattle.reader_names.specs.NameKeys.{stirred}
use Rattle.reader_names.proofs.keys.stirred.Goals as goal

pub returns : goal.returns
unfolding stirred
returns c = refl
