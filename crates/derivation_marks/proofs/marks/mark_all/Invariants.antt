use Prim.Native.Nat.{◌-◌, ◌≤◌}
use Rattle.reader.specs.Files.{words}
use Rattle.derivation_marks.specs.Marks.{Changed, with_mark}
use Rattle.derivation_marks.proofs.marks.mark_all.Given as goal

abbrev pub invariant-loop-j : goal.invariant-loop-j
invariant-loop-j l = (l.j - l.c ≤ l.n - l.c) × Changed (with_mark (words l.files) l.c) l.c l.j l.initial.reaches l.reaches
