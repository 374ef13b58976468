use Rattle.reader.specs.WordLaws.{past_end}
use Rattle.translation_values.proofs.values.entry_at.Goals as goal

pub returns-else-x-table : goal.returns-else-x-table
returns-else-x-table c = search past_end
