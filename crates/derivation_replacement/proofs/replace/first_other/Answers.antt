use native.Mathlib.Omega.{arith}
use Rattle.derivation_replacement.specs.Replaced.{first_two, first_one}
use Rattle.derivation_replacement.proofs.replace.first_other.Goals as goal

pub returns-then-w-eq1 : goal.returns-then-w-eq1
returns-then-w-eq1 c = (search first_two, omega arith, omega arith)

pub returns-else-w-eq1 : goal.returns-else-w-eq1
returns-else-w-eq1 c = (search first_one, omega arith, omega arith)
