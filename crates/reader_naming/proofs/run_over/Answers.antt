use Rattle.reader_naming.specs.Counts.{lower_in}
use Rattle.reader_naming.proofs.run_over.Goals as goal

pub bump-requires-2 : goal.bump-requires-2
bump-requires-2 c = search lower_in

pub returns : goal.returns
returns c = ((cc), (cc))
