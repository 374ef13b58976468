use Rattle.proof_rows.specs.Paths.{child_first, child_second}
use Rattle.proof_rows.proofs.paths.child_in.Goals as goal

pub returns-then-a-eq1 : goal.returns-then-a-eq1
returns-then-a-eq1 c = search child_first

pub returns : goal.returns
returns c = search child_second
