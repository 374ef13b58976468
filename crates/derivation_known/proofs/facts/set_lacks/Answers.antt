use mathlib.Core.Path.{refl}
use Rattle.derivation_known.specs.Known.{no_constant, held_lacks, lacks_unknown}
use Rattle.std.proofs.Common.{ap, not}
use Rattle.derivation_known.proofs.facts.set_lacks.Goals as goal

pub returns-then-body-lt2 : goal.returns-then-body-lt2
returns-then-body-lt2 c = no_constant _ _ _ _ refl c.if-body-lt2.true

pub returns-then-not-is_held : goal.returns-then-not-is_held
returns-then-not-is_held c = lacks_unknown _ _ _

pub returns : goal.returns
returns c =
    held_lacks _ _ _ _ refl c.if-body-lt2.false _ c.is_held.ensures (ap not c.if-not-is_held.false) _ c.is_held-2.ensures
