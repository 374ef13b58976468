use Rattle.derivation_frames.specs.Links.{link_is}
use Rattle.derivation_frames.proofs.links.link_at.Goals as goal

pub returns : goal.returns
returns c = search link_is
