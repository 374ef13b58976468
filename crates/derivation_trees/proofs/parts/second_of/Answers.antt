use Rattle.derivation_trees.specs.Parts.{second_is}
use Rattle.derivation_trees.proofs.parts.second_of.Goals as goal

pub returns : goal.returns
returns c = search second_is
