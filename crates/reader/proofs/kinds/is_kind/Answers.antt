use Rattle.reader.specs.TestLaws.{ifs}
use Rattle.reader.specs.Kinds.{is_kind}
use Rattle.reader.proofs.kinds.is_kind.Goals as goal

pub returns-then-k-lt24 : goal.returns-then-k-lt24
unfolding is_kind
returns-then-k-lt24 c = search ifs

pub returns : goal.returns
unfolding is_kind
returns c = search ifs
