use Rattle.reader_variables.specs.Variables.{type_other, type_variable}
use Rattle.reader_variables.proofs.variables.type_variable_below.Goals as goal

pub returns-then-k : goal.returns-then-k
returns-then-k c = search type_other

pub returns : goal.returns
returns c = search type_variable
