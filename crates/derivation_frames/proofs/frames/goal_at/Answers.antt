use Rattle.derivation_frames.specs.Frames.{goal_word}
use Rattle.derivation_frames.proofs.frames.goal_at.Goals as goal

pub returns : goal.returns
returns c = goal_word _ _
