use Rattle.proof_references.specs.References.{references_are}
use Rattle.proof_references.proofs.references_of.Goals as goal

pub returns : goal.returns
returns c = search references_are
