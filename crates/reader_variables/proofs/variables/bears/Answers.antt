use Rattle.reader_variables.specs.Variables.{bears_all}
use Rattle.reader_variables.proofs.variables.bears.Goals as goal

pub returns : goal.returns
returns c = search bears_all
