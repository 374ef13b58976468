use Rattle.reader_variables.specs.Variables.{index_other, index_crossed, index_past}
use Rattle.reader_variables.proofs.variables.is_index.Goals as goal

pub returns-then-k : goal.returns-then-k
returns-then-k c = search index_other

pub returns-then-a-c : goal.returns-then-a-c
returns-then-a-c c = search index_crossed

pub returns : goal.returns
returns c = search index_past
