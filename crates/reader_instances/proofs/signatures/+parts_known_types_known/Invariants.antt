use Prim.Native.Nat.{◌+◌, ◌*◌}
use Rattle.reader_instances.proofs.signatures.+parts_known_types_known.Given as goal

abbrev pub decreases-parts_known : goal.decreases-parts_known
decreases-parts_known l = 2 * l.i

abbrev pub decreases-types_known : goal.decreases-types_known
decreases-types_known l = 2 * l.i + 1
