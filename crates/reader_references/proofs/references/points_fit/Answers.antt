use Rattle.reader.specs.TestLaws.{boths}
use Rattle.reader_references.specs.References.{points_fit, points_is, points_free, points_here}
use Rattle.reader_references.specs.Rows.{roles}
use Rattle.reader_references.proofs.references.points_fit.Goals as goal

pub returns-then-not-points_in : goal.returns-then-not-points_in
unfolding points_fit
returns-then-not-points_in c = search (roles, points_is, boths)

pub returns-then-not-points_in-2 : goal.returns-then-not-points_in-2
unfolding points_fit
returns-then-not-points_in-2 c = search (roles, points_is, boths)

pub returns-then-third : goal.returns-then-third
unfolding points_fit
returns-then-third c = search (roles, points_is, points_free, boths)

pub returns : goal.returns
unfolding points_fit
returns c = search (roles, points_is, points_here, boths)
