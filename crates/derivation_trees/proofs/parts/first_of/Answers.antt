use Rattle.derivation_trees.specs.Parts.{first_is}
use Rattle.derivation_trees.proofs.parts.first_of.Goals as goal

pub returns : goal.returns
returns c = search first_is
