use Rattle.reader.specs.TestLaws.{ifs}
use Rattle.reader_equality.proofs.shapes.lower.Goals as goal

pub returns-then-a-i : goal.returns-then-a-i
returns-then-a-i c = search ifs

pub returns-else-a-i : goal.returns-else-a-i
returns-else-a-i c = search ifs
