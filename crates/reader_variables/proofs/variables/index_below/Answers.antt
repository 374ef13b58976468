use Rattle.reader_variables.specs.Variables.{bound_other, bound_crossed, bound_past}
use Rattle.reader_variables.proofs.variables.index_below.Goals as goal

pub returns-then-k : goal.returns-then-k
returns-then-k c = search bound_other

pub returns-then-a-c : goal.returns-then-a-c
returns-then-a-c c = search bound_crossed

pub returns : goal.returns
returns c = search bound_past
