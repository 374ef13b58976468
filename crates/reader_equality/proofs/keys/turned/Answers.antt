use mathlib.Core.Path.{refl}
use Rattle.reader_equality.specs.Keys.{turned}
use Rattle.reader_equality.proofs.keys.turned.Goals as goal

pub returns : goal.returns
unfolding turned
returns c = refl
