use lib.ListN.{length}
use Rattle.reader.specs.Files.{words}
use Rattle.derivation_trees.specs.Keys.{rank}
use Rattle.derivation_paths.specs.Paths.{Leaves}
use Rattle.derivation_paths.proofs.paths.follow.Given as goal

abbrev pub invariant-loop-z : goal.invariant-loop-z
invariant-loop-z l =
    Leaves (words l.files) (length l.keys) l.x l.j l.d (record { whole = l.y; body = l.z; depth = l.e })

abbrev pub decreases-loop-z : goal.decreases-loop-z
decreases-loop-z l = rank l.z
