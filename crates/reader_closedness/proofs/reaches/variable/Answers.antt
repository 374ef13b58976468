use Rattle.reader_closedness.specs.Reaches.{variable_type, variable_index}
use Rattle.reader_closedness.proofs.reaches.variable.Goals as goal

pub returns-then-types : goal.returns-then-types
returns-then-types c = search variable_type

pub returns-else-types : goal.returns-else-types
returns-else-types c = search variable_index
