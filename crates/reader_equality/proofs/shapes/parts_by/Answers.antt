use Rattle.reader_equality.specs.Shapes.{parts_are}
use Rattle.reader_equality.proofs.shapes.parts_by.Goals as goal

pub returns : goal.returns
returns c = search parts_are
