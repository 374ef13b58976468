use Rattle.reader.specs.TestLaws.{ifs_of}
use Rattle.reader.specs.Names.{name_of}
use Rattle.reader_names.proofs.symbols.name_in.Goals as goal

pub returns-then-x : goal.returns-then-x
unfolding name_of
returns-then-x c = search ifs_of

pub returns-then-x-2 : goal.returns-then-x-2
unfolding name_of
returns-then-x-2 c = search ifs_of

pub returns-then-x-3 : goal.returns-then-x-3
unfolding name_of
returns-then-x-3 c = search ifs_of

pub returns : goal.returns
unfolding name_of
returns c = search ifs_of
