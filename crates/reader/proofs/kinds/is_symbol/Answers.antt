use Rattle.reader.specs.TestLaws.{ifs}
use Rattle.reader.specs.Kinds.{is_symbol}
use Rattle.reader.proofs.kinds.is_symbol.Goals as goal

pub returns-then-k : goal.returns-then-k
unfolding is_symbol
returns-then-k c = search ifs

pub returns-then-k-2 : goal.returns-then-k-2
unfolding is_symbol
returns-then-k-2 c = search ifs

pub returns : goal.returns
unfolding is_symbol
returns c = search ifs
