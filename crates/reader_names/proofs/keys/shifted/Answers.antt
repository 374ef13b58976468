use mathlib.Core.Path.{refl}
use Rattle.reader_names.specs.NameKeys.{shifted}
use Rattle.reader_names.proofs.keys.shifted.Goals as goal

pub returns : goal.returns
unfolding shifted
returns c = refl
