use Rattle.reader_closedness.specs.Reaches.{entry_type, entry_index}
use Rattle.reader_closedness.proofs.reaches.entry_of.Goals as goal

pub returns-then-types : goal.returns-then-types
returns-then-types c = search entry_type

pub returns-else-types : goal.returns-else-types
returns-else-types c = search entry_index
