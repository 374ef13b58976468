use native.Mathlib.Omega.{arith}
use Rattle.derivation_replacement.specs.Replaced.{depth_same, depth_binder, depth_other}
use Rattle.derivation_replacement.proofs.replace.part_depth.Goals as goal

pub returns-then-w-ne2 : goal.returns-then-w-ne2
returns-then-w-ne2 c = (search depth_same, omega arith)

pub returns-then-kind_of : goal.returns-then-kind_of
returns-then-kind_of c = (search depth_binder, omega arith)

pub returns-else-kind_of : goal.returns-else-kind_of
returns-else-kind_of c = (search depth_other, omega arith)
