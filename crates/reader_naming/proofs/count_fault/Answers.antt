use Rattle.reader_naming.specs.Totals.{count_other, count_one, count_wrong}
use Rattle.reader_naming.proofs.count_fault.Goals as goal

pub returns-then-not-is_rule : goal.returns-then-not-is_rule
returns-then-not-is_rule c = search count_other

pub returns-then-count-eq1 : goal.returns-then-count-eq1
returns-then-count-eq1 c = search count_one

pub returns-else-count-eq1 : goal.returns-else-count-eq1
returns-else-count-eq1 c = search count_wrong
