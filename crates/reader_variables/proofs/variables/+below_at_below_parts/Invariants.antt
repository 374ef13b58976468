use Prim.Native.Nat.{◌+◌, ◌*◌}
use Rattle.reader_variables.proofs.variables.+below_at_below_parts.Given as goal

abbrev pub decreases-below_at : goal.decreases-below_at
decreases-below_at l = 2 * l.i + 1

abbrev pub decreases-below_parts : goal.decreases-below_parts
decreases-below_parts l = 2 * l.i
