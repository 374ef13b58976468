use Rattle.reader_closedness.specs.Filled.{reach_joined}
use Rattle.reader_closedness.proofs.fill.reach_in.Goals as goal

pub returns : goal.returns
returns c = search reach_joined
