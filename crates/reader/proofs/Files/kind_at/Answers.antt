use Rattle.reader.specs.Kinds.{kind_at}
use Rattle.reader.proofs.Files.kind_at.Goals as goal

pub returns : goal.returns
unfolding kind_at
returns c = cc
