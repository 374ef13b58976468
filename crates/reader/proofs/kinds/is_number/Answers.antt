use Rattle.reader.specs.TestLaws.{ifs}
use Rattle.reader.specs.Kinds.{is_number}
use Rattle.reader.proofs.kinds.is_number.Goals as goal

pub returns-then-r : goal.returns-then-r
unfolding is_number
returns-then-r c = search ifs

pub returns : goal.returns
unfolding is_number
returns c = search ifs
