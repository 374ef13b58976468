use native.Mathlib.Omega.{arith}
use Rattle.derivation_marks.specs.Marks.{entry_yes, entry_no}
use Rattle.derivation_marks.proofs.marks.marked_entry.Goals as goal

pub overflow_add-result : goal.overflow_add-result
overflow_add-result c = omega (arith, c.shared_slice_known-then-is_in-1.given c.args.j)

pub returns-then-is_in : goal.returns-then-is_in
returns-then-is_in c = search entry_yes

pub returns : goal.returns
returns c = search entry_no
