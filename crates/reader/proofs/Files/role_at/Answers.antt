use Rattle.reader.specs.Kinds.{kind_at, role_at}
use Rattle.reader.proofs.Files.role_at.Goals as goal

pub returns : goal.returns
unfolding kind_at role_at
returns c = cc
