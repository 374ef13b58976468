use Rattle.reader_equality.specs.Shapes.{atom_symbol, atom_other}
use Rattle.reader_equality.proofs.shapes.atom_by.Goals as goal

pub returns-then-shape-eq1 : goal.returns-then-shape-eq1
returns-then-shape-eq1 c = search atom_symbol

pub returns : goal.returns
returns c = search atom_other
