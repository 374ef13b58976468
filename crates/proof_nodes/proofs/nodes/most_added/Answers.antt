use native.Mathlib.Omega.{arith}
use Rattle.proof_nodes.specs.Nodes.{most_low, most_high, most_39, most_40, most_other}
use Rattle.proof_nodes.proofs.nodes.most_added.Goals as goal

pub returns-then-k-lt37 : goal.returns-then-k-lt37
returns-then-k-lt37 c = (search most_low, omega arith)

pub returns-then-k-gt46 : goal.returns-then-k-gt46
returns-then-k-gt46 c = (search most_high, omega arith)

pub returns-then-k-eq39 : goal.returns-then-k-eq39
returns-then-k-eq39 c = (search most_39, omega arith)

pub returns-then-k-eq40 : goal.returns-then-k-eq40
returns-then-k-eq40 c = (search most_40, omega arith)

pub returns : goal.returns
returns c = (search most_other, omega arith)
