use Rattle.derivation_closedness.specs.Reaches.{own_other, own_index}
use Rattle.derivation_closedness.proofs.closed.own_reach.Goals as goal

pub returns-then-x : goal.returns-then-x
returns-then-x c = search own_other

pub returns : goal.returns
returns c = search own_index
