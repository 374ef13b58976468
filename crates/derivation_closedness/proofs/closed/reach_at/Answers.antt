use Rattle.derivation_closedness.specs.Reaches.{reach_sign, reach_record}
use Rattle.derivation_trees.specs.Parts.{body_in}
use Rattle.derivation_closedness.proofs.closed.reach_at.Goals as goal

pub returns-then-body-lt2 : goal.returns-then-body-lt2
returns-then-body-lt2 c = search reach_sign

pub known_reach-requires : goal.known_reach-requires
known_reach-requires c = search body_in

pub returns : goal.returns
returns c = search reach_record
