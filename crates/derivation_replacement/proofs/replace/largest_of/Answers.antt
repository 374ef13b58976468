use native.Mathlib.Omega.{arith}
use Rattle.derivation_replacement.specs.Last.{largest_third, largest_second, largest_last, largest_first}
use Rattle.derivation_replacement.proofs.replace.largest_of.Goals as goal

pub returns-then-b-c : goal.returns-then-b-c
returns-then-b-c c = (search largest_third, omega arith, omega arith)

pub returns-else-b-c : goal.returns-else-b-c
returns-else-b-c c = (search largest_second, omega arith, omega arith)

pub returns-then-a-c : goal.returns-then-a-c
returns-then-a-c c = (search largest_last, omega arith, omega arith)

pub returns-else-a-c : goal.returns-else-a-c
returns-else-a-c c = (search largest_first, omega arith, omega arith)
