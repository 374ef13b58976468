use Rattle.derivation_frames.specs.Frames.{count_word}
use Rattle.derivation_frames.proofs.frames.count_at.Goals as goal

pub returns : goal.returns
returns c = count_word _ _
