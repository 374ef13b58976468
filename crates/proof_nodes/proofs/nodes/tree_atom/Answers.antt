use Rattle.proof_nodes.specs.Nodes.{atom_none, atom_some}
use Rattle.proof_nodes.proofs.nodes.tree_atom.Goals as goal

pub returns-then-i-eq0 : goal.returns-then-i-eq0
returns-then-i-eq0 c = search atom_none

pub returns : goal.returns
returns c = search atom_some
