use Rattle.reader.specs.TestLaws.{boths}
use Rattle.reader.specs.Variables.{is_closed}
use Rattle.reader_variables.proofs.variables.is_closed.Goals as goal

pub returns-then-not-indices_below : goal.returns-then-not-indices_below
unfolding is_closed
returns-then-not-indices_below c = search boths

pub returns : goal.returns
unfolding is_closed
returns c = search boths
