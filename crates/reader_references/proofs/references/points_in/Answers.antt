use Rattle.reader_references.specs.References.{points_nothing, points_some}
use Rattle.reader_references.proofs.references.points_in.Goals as goal

pub returns-then-role : goal.returns-then-role
returns-then-role c = search points_nothing

pub returns : goal.returns
returns c = search points_some
