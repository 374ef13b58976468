use Rattle.reader.specs.TestLaws.{ifs_of}
use Rattle.derivation_frames.proofs.links.lowered.Goals as goal

pub returns-then-a-i : goal.returns-then-a-i
returns-then-a-i c = search ifs_of

pub returns-else-a-i : goal.returns-else-a-i
returns-else-a-i c = search ifs_of
