use Rattle.translation_values.specs.Values.{premise_is}
use Rattle.translation_values.proofs.values.premise_at.Goals as goal

pub returns : goal.returns
returns c = search premise_is
