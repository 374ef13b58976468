use Rattle.reader.specs.TestLaws.{trues}
use Rattle.reader_equality.proofs.shapes.parts_bits.Goals as goal

pub returns-then-types : goal.returns-then-types
returns-then-types c = search trues

pub returns-else-types : goal.returns-else-types
returns-else-types c = search trues
