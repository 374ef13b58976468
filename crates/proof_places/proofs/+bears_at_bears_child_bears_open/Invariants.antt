use Prim.Native.Nat.{◌+◌, ◌*◌}
use Rattle.proof_places.proofs.+bears_at_bears_child_bears_open.Given as goal

abbrev pub decreases-bears_at : goal.decreases-bears_at
decreases-bears_at l = 3 * l.i + 2

abbrev pub decreases-bears_child : goal.decreases-bears_child
decreases-bears_child l = 3 * l.i

abbrev pub decreases-bears_open : goal.decreases-bears_open
decreases-bears_open l = 3 * l.i + 1
