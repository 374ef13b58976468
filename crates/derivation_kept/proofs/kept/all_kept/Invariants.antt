use lib.ListN.{length}
use Rattle.reader.specs.Files.{words}
use Rattle.derivation_kept.specs.Kept.{Run}
use Rattle.derivation_kept.proofs.kept.all_kept.Given as goal

abbrev pub invariant-loop-l : goal.invariant-loop-l
invariant-loop-l l = Run (words l.files) (length l.keys) l.b l.c l.l l.p l.left

abbrev pub decreases-loop-l : goal.decreases-loop-l
decreases-loop-l l = l.l
