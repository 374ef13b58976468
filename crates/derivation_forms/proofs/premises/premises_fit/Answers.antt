use Rattle.derivation_forms.specs.Premises.{premises_of}
use Rattle.derivation_forms.proofs.premises.premises_fit.Goals as goal

pub returns : goal.returns
returns c = search premises_of
