use Rattle.reader.specs.TestLaws.{ifs}
use Rattle.proof_rows.specs.Forms.{left_path}
use Rattle.proof_rows.proofs.forms.left_path.Goals as goal

pub returns-then-form-eq3 : goal.returns-then-form-eq3
unfolding left_path
returns-then-form-eq3 c = search ifs

pub returns-else-form-eq3 : goal.returns-else-form-eq3
unfolding left_path
returns-else-form-eq3 c = search ifs
