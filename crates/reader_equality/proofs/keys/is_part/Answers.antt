use Rattle.reader.specs.TestLaws.{ifs, trues}
use Rattle.reader_equality.specs.Keys.{is_part}
use Rattle.reader_equality.proofs.keys.is_part.Goals as goal

pub returns-then-role : goal.returns-then-role
unfolding is_part
returns-then-role c = search (ifs, trues)

pub returns-then-types : goal.returns-then-types
unfolding is_part
returns-then-types c = search (ifs, trues)

pub returns-then-role-2 : goal.returns-then-role-2
unfolding is_part
returns-then-role-2 c = search (ifs, trues)

pub returns : goal.returns
unfolding is_part
returns c = search (ifs, trues)
