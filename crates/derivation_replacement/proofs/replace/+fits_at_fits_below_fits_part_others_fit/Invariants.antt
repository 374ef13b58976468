use Prim.Native.Nat.{◌+◌, ◌*◌, ◌≤◌}
use mathlib.Core.Path.{◌≡◌}
use Rattle.reader.specs.Files.{words}
use Rattle.derivation_trees.specs.Keys.{rank}
use Rattle.derivation_known.specs.Known.{fits}
use Rattle.derivation_replacement.specs.Settled.{Asking, Open}
use Rattle.derivation_replacement.proofs.replace.+fits_at_fits_below_fits_part_others_fit.Given as goal

abbrev pub decreases-fits_at : goal.decreases-fits_at
decreases-fits_at l = 4 * rank l.j + 3

abbrev pub decreases-fits_below : goal.decreases-fits_below
decreases-fits_below l = 4 * rank l.j + 2

abbrev pub decreases-fits_part : goal.decreases-fits_part
decreases-fits_part l = 4 * rank l.j

abbrev pub decreases-others_fit : goal.decreases-others_fit
decreases-others_fit l = 4 * rank l.j + 1

abbrev pub invariant-fits_below-loop : goal.invariant-fits_below-loop
invariant-fits_below-loop l =
    Asking (words l.files) l.keys l.reaches l.known l.y l.t l.z l.e × Open (words l.files) l.z l.e ×
    (fits (words l.files) l.x l.t l.j l.d ≡ fits (words l.files) l.y l.t l.z l.e) × (rank l.z + l.counter ≤ rank l.j)
