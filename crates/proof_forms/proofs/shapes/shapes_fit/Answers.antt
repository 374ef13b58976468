use Rattle.proof_forms.specs.Tables.{shapes_varying, shapes_counted}
use Rattle.proof_forms.proofs.shapes.shapes_fit.Goals as goal

pub returns-then-count-eq15 : goal.returns-then-count-eq15
returns-then-count-eq15 c = search shapes_varying

pub returns : goal.returns
returns c = search shapes_counted
