use Prim.Native.Nat.{◌+◌, ◌*◌}
use Rattle.proof_walk.proofs.walk.+walk_links_walk_node_walk_premise.Given as goal

abbrev pub decreases-walk_links : goal.decreases-walk_links
decreases-walk_links l = 3 * l.c + 2

abbrev pub decreases-walk_node : goal.decreases-walk_node
decreases-walk_node l = 3 * l.n

abbrev pub decreases-walk_premise : goal.decreases-walk_premise
decreases-walk_premise l = 3 * l.x + 1
