use Rattle.reader.specs.Kinds.{kind_at, class_at}
use Rattle.reader.proofs.Files.class_at.Goals as goal

pub returns : goal.returns
unfolding kind_at class_at
returns c = cc
