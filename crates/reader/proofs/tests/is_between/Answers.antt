use Rattle.reader.specs.Tests.{between}
use Rattle.reader.specs.TestLaws.{ifs}
use Rattle.reader.proofs.tests.is_between.Goals as goal

pub returns-then-a-low : goal.returns-then-a-low
unfolding between
returns-then-a-low c = search ifs

pub returns : goal.returns
unfolding between
returns c = search ifs
