use Rattle.reader_references.specs.References.{points_zero, points_far, points_class}
use Rattle.reader_references.proofs.references.points_well.Goals as goal

pub returns-then-a-eq0 : goal.returns-then-a-eq0
returns-then-a-eq0 c = search points_zero

pub returns-then-i-a : goal.returns-then-i-a
returns-then-i-a c = search points_far

pub returns : goal.returns
returns c = search points_class
