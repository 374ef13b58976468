use Rattle.reader.specs.TestLaws.{boths}
use Rattle.reader.specs.Records.{ranges_fit}
use Rattle.reader_references.specs.References.{range_is}
use Rattle.reader_references.specs.Rows.{roles}
use Rattle.reader_references.proofs.ranges.ranges_fit.Goals as goal

pub returns-then-not-in_range : goal.returns-then-not-in_range
unfolding ranges_fit
returns-then-not-in_range c = search (roles, range_is, boths)

pub returns-then-not-in_range-2 : goal.returns-then-not-in_range-2
unfolding ranges_fit
returns-then-not-in_range-2 c = search (roles, range_is, boths)

pub returns : goal.returns
unfolding ranges_fit
returns c = search (roles, range_is, boths)
