use Rattle.reader.specs.TestLaws.{boths}
use Rattle.reader_headers.specs.Roots.{roots_fit}
use Rattle.reader_headers.proofs.roots.roots_fit.Goals as goal

pub returns-then-not-goal_fits : goal.returns-then-not-goal_fits
unfolding roots_fit
returns-then-not-goal_fits c = search boths

pub returns : goal.returns
unfolding roots_fit
returns c = search boths
