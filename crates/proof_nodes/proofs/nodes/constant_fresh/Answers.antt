use Rattle.proof_nodes.specs.Nodes.{fresh_other, fresh_constant}
use Rattle.proof_nodes.proofs.nodes.constant_fresh.Goals as goal

pub returns-then-k-ne43 : goal.returns-then-k-ne43
returns-then-k-ne43 c = (search fresh_other, c.requires.blank)

pub returns : goal.returns
returns c = (search fresh_constant, c.is_fresh.ensures.1)
