use borrow.Author.Rules.{rules}
use native.Mathlib.Omega.{arith}
use Rattle.derivation_members.specs.Members.{frame_in}
use Rattle.derivation_needs.proofs.needs.items_held.Goals as goal

pub count_at-requires : goal.count_at-requires
count_at-requires c = search (frame_in, rules)

pub start_at-requires : goal.start_at-requires
start_at-requires c = search (frame_in, rules)

pub overflow_sub-d : goal.overflow_sub-d
overflow_sub-d c = omega (arith, c.start_at.ensures, c.requires.0.framed.start)
