use Prim.Native.Nat.{◌+◌, ◌*◌}
use Rattle.reader_instances.proofs.instances.+fits_at_fits_child_fits_parts.Given as goal

abbrev pub decreases-fits_at : goal.decreases-fits_at
decreases-fits_at l = 3 * l.j + 2

abbrev pub decreases-fits_child : goal.decreases-fits_child
decreases-fits_child l = 3 * l.j

abbrev pub decreases-fits_parts : goal.decreases-fits_parts
decreases-fits_parts l = 3 * l.j + 1
