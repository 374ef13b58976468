use Prim.Native.Nat.{◌-◌}
use Rattle.reader.specs.Files.{words}
use Rattle.reader_naming.specs.Counts.{Settled}
use Rattle.reader_naming.specs.Totals.{Total}
use Rattle.reader_naming.proofs.count_nodes.Given as goal

abbrev pub invariant-loop-j : goal.invariant-loop-j
invariant-loop-j l = Total l.mode (words l.files) (l.j - 1) l.initial.named l.named × Settled (words l.files) l.named l.passed
