use Rattle.proof_forms.specs.Premises.{nodes_counted}
use Rattle.proof_forms.proofs.premises.premises_fit.Goals as goal

pub returns : goal.returns
returns c = search nodes_counted
