use Rattle.derivation_closedness.specs.Reaches.{reach_known}
use Rattle.derivation_closedness.proofs.closed.part_reach.Goals as goal

pub returns-then-i-n : goal.returns-then-i-n
returns-then-i-n c = search reach_known
