use Rattle.reader_names.specs.Plain.{name_plain, name_other}
use Rattle.reader_names.proofs.plain.plain_name.Goals as goal

pub returns-then-is_plain : goal.returns-then-is_plain
returns-then-is_plain c = search name_plain

pub returns-else-is_plain : goal.returns-else-is_plain
returns-else-is_plain c = search name_other
