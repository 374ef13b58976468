use Rattle.derivation_closedness.specs.Reaches.{below_is}
use Rattle.derivation_closedness.proofs.closed.is_below.Goals as goal

pub returns : goal.returns
returns c = search below_is
