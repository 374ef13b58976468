use Prim.Native.Nat.{◌-◌, ◌≤◌}
use Rattle.derivation_marks.specs.Marks.{Changed, without_mark}
use Rattle.derivation_marks.proofs.marks.unmark_all.Given as goal

abbrev pub invariant-loop-i : goal.invariant-loop-i
invariant-loop-i l = (l.i - l.c ≤ l.n - l.c) × Changed without_mark l.c l.i l.initial.reaches l.reaches
