use Rattle.derivation_frames.specs.Frames.{start_word}
use Rattle.derivation_frames.proofs.frames.start_at.Goals as goal

pub returns : goal.returns
returns c = start_word _ _
