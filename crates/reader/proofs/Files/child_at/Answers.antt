use Rattle.reader.specs.TestLaws.{ifs_of}
use Rattle.reader.specs.Trees.{child}
use Rattle.reader.proofs.Files.child_at.Goals as goal

pub returns-then-role_at : goal.returns-then-role_at
unfolding child
returns-then-role_at c = search ifs_of

pub returns : goal.returns
unfolding child
returns c = search ifs_of
