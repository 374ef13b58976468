use mathlib.Core.Path.{◌≡◌}
use lib.ListN.{length}
use Rattle.reader_naming.specs.Counts.{Turn}
use Rattle.reader.specs.Files.{words}
use Rattle.reader_naming.proofs.pass_chain.Given as goal

abbrev pub invariant-loop-i : goal.invariant-loop-i
invariant-loop-i l =
    Turn (words l.files) l.c l.initial.named l.i l.named l.passed × (length l.named ≡ length l.initial.named) × (length l.passed ≡ length l.initial.passed)

abbrev pub decreases-loop-i : goal.decreases-loop-i
decreases-loop-i l = l.i
