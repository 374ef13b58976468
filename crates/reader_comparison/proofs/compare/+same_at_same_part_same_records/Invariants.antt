use Prim.Native.Nat.{◌+◌, ◌*◌}
use Rattle.reader_comparison.proofs.compare.+same_at_same_part_same_records.Given as goal

abbrev pub decreases-same_at : goal.decreases-same_at
decreases-same_at l = 3 * l.i + 2

abbrev pub decreases-same_part : goal.decreases-same_part
decreases-same_part l = 3 * l.a + 3

abbrev pub decreases-same_records : goal.decreases-same_records
decreases-same_records l = 3 * l.i + 1
