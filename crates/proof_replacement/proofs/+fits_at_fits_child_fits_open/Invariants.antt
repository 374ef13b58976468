use Prim.Native.Nat.{◌+◌, ◌*◌}
use Rattle.proof_replacement.proofs.+fits_at_fits_child_fits_open.Given as goal

abbrev pub decreases-fits_at : goal.decreases-fits_at
decreases-fits_at l = 3 * l.j + 2

abbrev pub decreases-fits_child : goal.decreases-fits_child
decreases-fits_child l = 3 * l.j

abbrev pub decreases-fits_open : goal.decreases-fits_open
decreases-fits_open l = 3 * l.j + 1
