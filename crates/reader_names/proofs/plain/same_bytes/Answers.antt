use Rattle.reader_names.specs.Plain.{same_first, same_second}
use Rattle.reader_names.proofs.plain.same_bytes.Goals as goal

pub returns-then-x-y : goal.returns-then-x-y
returns-then-x-y c = search same_second

pub returns-else-x-y : goal.returns-else-x-y
returns-else-x-y c = search same_first
