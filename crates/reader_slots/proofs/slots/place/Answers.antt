use borrow.Author.Rules.{rules}
use native.Mathlib.Omega.{arith}
use mathlib.Core.Path.{sym, ◌∙◌}
use Rattle.reader_equality.specs.Keys.{key_in_lem}
use Rattle.reader_equality.specs.Shapes.{key_shape}
use Rattle.reader_slots.specs.Slots.{old_put, new_put}
use Rattle.reader_slots.proofs.slots.place.Goals as goal

pub slot_of-slot-requires : goal.slot_of-slot-requires
slot_of-slot-requires c = search (rules, key_shape)

pub returns-then-j-ne0 : goal.returns-then-j-ne0
returns-then-j-ne0 c =
    let p = c.requires in let same = c.key_in-key.ensures ∙ key_in_lem _ _ _ _ _ p.5 in old_put _ _ _ _ _ p.0 same p.4
    c.slot_of-slot.ensures _ c.record_in-j.ensures c.if-j-ne0.true

pub returns : goal.returns
returns c =
    let p = c.requires in let same = c.key_in-key.ensures ∙ key_in_lem _ _ _ _ _ p.5 in let free = sym c.record_in-j.ensures ∙ c.if-j-ne0.false in let e =
    c.slot_of-slot.ensures in new_put _ _ _ _ _ p.0 same p.4 e free (omega (arith, e.inside))
