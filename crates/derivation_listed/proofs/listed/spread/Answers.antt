use mathlib.Core.Path.{refl}
use Rattle.derivation_listed.specs.Listed.{spread}
use Rattle.derivation_listed.proofs.listed.spread.Goals as goal

pub returns : goal.returns
unfolding spread
returns c = refl
