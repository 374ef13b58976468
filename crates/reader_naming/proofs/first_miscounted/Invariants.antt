use Prim.Native.Nat.{◌+◌, ◌-◌}
use mathlib.Core.Path.{◌≡◌}
use Rattle.reader.specs.Files.{words}
use Rattle.reader.specs.Answers.{first_fault}
use Rattle.reader_naming.specs.Totals.{count_fault}
use Rattle.reader_naming.proofs.first_miscounted.Given as goal

abbrev pub invariant-loop-i : goal.invariant-loop-i
invariant-loop-i l =
    first_fault (count_fault l.mode (words l.files) l.named) 2 (l.last + 1 - l.first) l.first
    ≡ first_fault (count_fault l.mode (words l.files) l.named) 2 (l.last + 1 - l.i) l.i
