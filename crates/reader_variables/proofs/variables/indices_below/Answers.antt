use Rattle.reader_variables.specs.Variables.{below_all}
use Rattle.reader_variables.proofs.variables.indices_below.Goals as goal

pub returns : goal.returns
returns c = search below_all
