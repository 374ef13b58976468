use Rattle.reader.specs.TestLaws.{ifs_of}
use Rattle.reader.specs.Names.{name_of}
use Rattle.reader_names.proofs.symbols.name_of.Goals as goal

pub returns-then-k : goal.returns-then-k
unfolding name_of
returns-then-k c = search ifs_of

pub returns-then-k-2 : goal.returns-then-k-2
unfolding name_of
returns-then-k-2 c = search ifs_of

pub returns-then-k-3 : goal.returns-then-k-3
unfolding name_of
returns-then-k-3 c = search ifs_of

pub returns : goal.returns
unfolding name_of
returns c = search ifs_of
