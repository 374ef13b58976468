use Rattle.reader_names.specs.Plain.{parts_apart, parts_same}
use Rattle.reader_names.proofs.slots.has_parts.Goals as goal

pub returns-then-records_differ : goal.returns-then-records_differ
returns-then-records_differ c = search parts_apart

pub returns : goal.returns
returns c = search parts_same
