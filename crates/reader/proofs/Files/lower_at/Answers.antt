use Rattle.reader.specs.TestLaws.{ifs_of}
use Rattle.reader.specs.Trees.{lower}
use Rattle.reader.proofs.Files.lower_at.Goals as goal

pub returns-then-a-i : goal.returns-then-a-i
unfolding lower
returns-then-a-i c = search ifs_of

pub returns-else-a-i : goal.returns-else-a-i
unfolding lower
returns-else-a-i c = search ifs_of
