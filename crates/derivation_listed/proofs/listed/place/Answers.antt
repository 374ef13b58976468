use native.Mathlib.Omega.{arith}
use mathlib.Core.Path.{refl}
use Rattle.derivation_listed.specs.Listed.{placed_old, placed_new}
use Rattle.derivation_listed.proofs.listed.place.Goals as goal

pub returns-then-j-ne0 : goal.returns-then-j-ne0
returns-then-j-ne0 c = search placed_old

pub returns : goal.returns
returns c =
    let p = c.requires in let e = c.slot_of-slot.ensures in placed_new _ _ _ _ _ _ p.0
    refl p.2 e c.record_in-j.ensures c.if-j-ne0.false (omega (arith, e.inside, p.1.room))
