use Rattle.derivation_nodes.specs.Nodes.{premises_at_lem}
use Rattle.derivation_nodes.proofs.nodes.premises_fit.Goals as goal

pub returns : goal.returns
returns c = search premises_at_lem
