use Rattle.reader.specs.TestLaws.{ifs}
use Rattle.reader.specs.Records.{in_range}
use Rattle.reader_references.specs.References.{range_any}
use Rattle.reader_references.proofs.ranges.in_range.Goals as goal

pub returns-then-role : goal.returns-then-role
unfolding in_range
returns-then-role c = search ifs

pub returns-then-role-2 : goal.returns-then-role-2
unfolding in_range
returns-then-role-2 c = search range_any

pub returns-then-role-3 : goal.returns-then-role-3
unfolding in_range
returns-then-role-3 c = search ifs

pub returns-then-role-4 : goal.returns-then-role-4
unfolding in_range
returns-then-role-4 c = search ifs

pub returns-then-role-5 : goal.returns-then-role-5
unfolding in_range
returns-then-role-5 c = search ifs

pub returns-then-role-6 : goal.returns-then-role-6
unfolding in_range
returns-then-role-6 c = search ifs

pub returns : goal.returns
unfolding in_range
returns c = search ifs
