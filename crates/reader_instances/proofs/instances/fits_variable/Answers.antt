use Rattle.reader_instances.specs.Instances.{variable_past, variable_item}
use Rattle.reader_instances.proofs.instances.fits_variable.Goals as goal

pub returns-then-l-eq0 : goal.returns-then-l-eq0
returns-then-l-eq0 c = search variable_past

pub returns : goal.returns
returns c = search variable_item
