use borrow.Author.Rules.{rules}
use native.Mathlib.Omega.{arith}
use Rattle.reader_equality.specs.Keys.{side_small}
use Rattle.reader_slots.specs.Slots.{under}
use Rattle.reader_slots.proofs.slots.slot_under.Goals as goal

pub overflow_add-result-2 : goal.overflow_add-result-2
unfolding under
overflow_add-result-2 c = omega (arith, side_small _ _ c.side_of.ensures)

pub returns : goal.returns
unfolding under
returns c = search rules
