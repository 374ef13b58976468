use Rattle.reader.specs.TestLaws.{ifs}
use Rattle.reader_equality.proofs.shapes.when.Goals as goal

pub returns-then-bit-eq1 : goal.returns-then-bit-eq1
returns-then-bit-eq1 c = search ifs

pub returns-else-bit-eq1 : goal.returns-else-bit-eq1
returns-else-bit-eq1 c = search ifs
