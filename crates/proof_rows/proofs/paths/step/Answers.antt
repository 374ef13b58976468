use Rattle.proof_rows.specs.Paths.{step_none, step_child}
use Rattle.proof_rows.proofs.paths.step.Goals as goal

pub returns-then-a-eq0 : goal.returns-then-a-eq0
returns-then-a-eq0 c = search step_none

pub returns : goal.returns
returns c = search step_child
