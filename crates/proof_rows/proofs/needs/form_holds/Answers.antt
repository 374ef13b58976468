use Rattle.proof_rows.specs.Forms.{need_false, need_not_true, need_formed}
use Rattle.proof_rows.proofs.needs.form_holds.Goals as goal

pub returns-then-form-eq1 : goal.returns-then-form-eq1
returns-then-form-eq1 c = search need_false

pub returns-then-form-eq2 : goal.returns-then-form-eq2
returns-then-form-eq2 c = search need_not_true

pub returns : goal.returns
returns c = search need_formed
