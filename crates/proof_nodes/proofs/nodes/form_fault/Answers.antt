use Rattle.reader.specs.TestLaws.{demands}
use Rattle.proof_nodes.specs.Nodes.{form_fault, nodes_by_byte}
use Rattle.proof_nodes.proofs.nodes.form_fault.Goals as goal

pub returns-then-not-shapes_fit : goal.returns-then-not-shapes_fit
unfolding form_fault
returns-then-not-shapes_fit c = search demands

pub returns-then-not-premises_fit : goal.returns-then-not-premises_fit
unfolding form_fault
returns-then-not-premises_fit c = search (demands, nodes_by_byte)

pub returns-then-not-needs_hold : goal.returns-then-not-needs_hold
unfolding form_fault
returns-then-not-needs_hold c = search (demands, nodes_by_byte)

pub returns : goal.returns
unfolding form_fault
returns c = search (demands, nodes_by_byte)
