use native.Mathlib.Omega.{arith}
use Rattle.reader_variables.specs.Variables.{deeper_yes, deeper_no}
use Rattle.reader_variables.proofs.variables.deeper.Goals as goal

pub returns-then-k : goal.returns-then-k
returns-then-k c = (search deeper_yes, omega arith)

pub returns-else-k : goal.returns-else-k
returns-else-k c = (search deeper_no, omega arith)
