use native.Mathlib.Omega.{arith}
use native.Mathlib.Omega.{arith}
use Rattle.reader_naming.proofs.up.Goals as goal

pub returns-then-count-lt2 : goal.returns-then-count-lt2
returns-then-count-lt2 c = omega arith

pub returns-else-count-lt2 : goal.returns-else-count-lt2
returns-else-count-lt2 c = omega arith
