use Rattle.reader_references.specs.References.{kind_is}
use Rattle.reader_references.proofs.ranges.kind_fits.Goals as goal

pub returns : goal.returns
returns c = search kind_is
