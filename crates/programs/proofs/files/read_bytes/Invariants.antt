use Rattle.std.proofs.Common.{◌≤◌, ◌-◌, length}
use Rattle.programs.proofs.files.read_bytes.Given as goal

abbrev pub invariant-loop-length : goal.invariant-loop-length
invariant-loop-length g l = l.length ≤ length l.area

abbrev pub decreases-loop-length : goal.decreases-loop-length
decreases-loop-length g l = length l.area - l.length
