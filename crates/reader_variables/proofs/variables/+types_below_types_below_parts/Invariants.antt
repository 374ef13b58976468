use Prim.Native.Nat.{◌+◌, ◌*◌}
use Rattle.reader_variables.proofs.variables.+types_below_types_below_parts.Given as goal

abbrev pub decreases-types_below : goal.decreases-types_below
decreases-types_below l = 2 * l.i + 1

abbrev pub decreases-types_below_parts : goal.decreases-types_below_parts
decreases-types_below_parts l = 2 * l.i
