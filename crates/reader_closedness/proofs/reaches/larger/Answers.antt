use Rattle.reader_closedness.specs.Reaches.{larger_second, larger_first}
use Rattle.reader_closedness.proofs.reaches.larger.Goals as goal

pub returns-then-a-b : goal.returns-then-a-b
returns-then-a-b c = search larger_second

pub returns-else-a-b : goal.returns-else-a-b
returns-else-a-b c = search larger_first
