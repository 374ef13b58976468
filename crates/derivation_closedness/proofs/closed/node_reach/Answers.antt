use Rattle.derivation_closedness.specs.Reaches.{node_made}
use Rattle.derivation_closedness.proofs.closed.node_reach.Goals as goal

pub returns : goal.returns
returns c =
    let p = c.requires in
    node_made _ _ p.0 _ p.1 _ _ _ _ _ _ _ _ c.own_reach-own.ensures p.3 p.4 p.5 c.under.ensures c.larger.ensures c.larger-2.ensures c.larger-3.ensures
