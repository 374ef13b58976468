use Rattle.std.proofs.Common.{arith}
use Rattle.programs.proofs.files.read_bytes.Goals as goal

pub loop-length-init : goal.loop-length-init
loop-length-init g c = omega arith
