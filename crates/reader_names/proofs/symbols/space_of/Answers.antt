use Rattle.reader.specs.TestLaws.{ifs}
use Rattle.reader.specs.Names.{name_space}
use Rattle.reader_names.proofs.symbols.space_of.Goals as goal

pub returns-then-k : goal.returns-then-k
unfolding name_space
returns-then-k c = search ifs

pub returns-then-k-2 : goal.returns-then-k-2
unfolding name_space
returns-then-k-2 c = search ifs

pub returns-then-k-3 : goal.returns-then-k-3
unfolding name_space
returns-then-k-3 c = search ifs

pub returns : goal.returns
unfolding name_space
returns c = search ifs
