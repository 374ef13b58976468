use Rattle.derivation_frames.specs.Links.{node_is}
use Rattle.derivation_frames.proofs.links.node_at.Goals as goal

pub returns : goal.returns
returns c = search node_is
