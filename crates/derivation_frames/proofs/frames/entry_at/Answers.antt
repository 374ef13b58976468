use Rattle.derivation_frames.specs.Frames.{entry_word}
use Rattle.derivation_frames.proofs.frames.entry_at.Goals as goal

pub returns : goal.returns
returns c = entry_word _ _
