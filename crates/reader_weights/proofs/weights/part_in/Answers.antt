use Rattle.reader.specs.TestLaws.{ifs}
use Rattle.reader_weights.specs.Weights.{part_by}
use Rattle.reader_weights.proofs.weights.part_in.Goals as goal

pub returns-then-role : goal.returns-then-role
unfolding part_by
returns-then-role c = search ifs

pub returns-then-a-i : goal.returns-then-a-i
unfolding part_by
returns-then-a-i c = search ifs

pub returns-else-a-i : goal.returns-else-a-i
unfolding part_by
returns-else-a-i c = search ifs
