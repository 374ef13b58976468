use Rattle.derivation_forms.specs.Formed.{formula_class}
use Rattle.derivation_forms.proofs.formed.is_formula.Goals as goal

pub returns : goal.returns
returns c = search formula_class
