use native.Mathlib.Omega.{arith}
use Rattle.derivation_replacement.specs.Replaced.{second_two, second_three}
use Rattle.derivation_replacement.proofs.replace.second_other.Goals as goal

pub returns-then-w-eq3 : goal.returns-then-w-eq3
returns-then-w-eq3 c = (search second_two, omega arith, omega arith)

pub returns-else-w-eq3 : goal.returns-else-w-eq3
returns-else-w-eq3 c = (search second_three, omega arith, omega arith)
