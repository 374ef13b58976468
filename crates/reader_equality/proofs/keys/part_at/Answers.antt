use Rattle.reader_equality.specs.Keys.{part_none, part_is}
use Rattle.reader_equality.proofs.keys.part_at.Goals as goal

pub returns-then-not-is_part : goal.returns-then-not-is_part
returns-then-not-is_part c = search part_none

pub returns : goal.returns
returns c = search part_is
