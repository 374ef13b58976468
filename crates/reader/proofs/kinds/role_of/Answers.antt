use Rattle.reader.specs.Tests.{if_eq, if_lt}
use Rattle.reader.specs.TestLaws.{ifs}
use Rattle.reader.specs.Kinds.{role}
use Rattle.reader.specs.KindLaws.{rows}
use Rattle.reader.proofs.kinds.role_of.Goals as goal

pub returns-then-w-eq1 : goal.returns-then-w-eq1
unfolding role if_eq if_lt
returns-then-w-eq1 c = search (ifs, rows)

pub returns-then-w-eq2 : goal.returns-then-w-eq2
unfolding role if_eq if_lt
returns-then-w-eq2 c = search (ifs, rows)

pub returns-then-w-eq3 : goal.returns-then-w-eq3
unfolding role if_eq if_lt
returns-then-w-eq3 c = search (ifs, rows)

pub returns : goal.returns
unfolding role if_eq if_lt
returns c = search ifs
