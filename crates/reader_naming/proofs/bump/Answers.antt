use Rattle.reader_naming.specs.Counts.{bumped}
use Rattle.reader_naming.proofs.bump.Goals as goal

pub returns : goal.returns
unfolding bumped
returns c = cc
