use Rattle.reader_equality.specs.Keys.{part_other, part_near, part_far}
use Rattle.reader_equality.proofs.keys.part_of.Goals as goal

pub returns-then-not-is_part : goal.returns-then-not-is_part
returns-then-not-is_part c = search part_other

pub returns-then-a-i : goal.returns-then-a-i
returns-then-a-i c = search part_near

pub returns-else-a-i : goal.returns-else-a-i
returns-else-a-i c = search part_far
