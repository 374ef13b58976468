use Prim.Native.Nat.{◌+◌, ◌*◌}
use Rattle.reader_closedness.proofs.reaches.+known_reach_reach_at.Given as goal

abbrev pub decreases-known_reach : goal.decreases-known_reach
decreases-known_reach l = 2 * l.a + 2

abbrev pub decreases-reach_at : goal.decreases-reach_at
decreases-reach_at l = 2 * l.i + 1
