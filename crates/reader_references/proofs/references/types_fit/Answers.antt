use Rattle.reader_references.specs.References.{types_none, types_some}
use Rattle.reader_references.proofs.references.types_fit.Goals as goal

pub returns-then-c-eq0 : goal.returns-then-c-eq0
returns-then-c-eq0 c = search types_none

pub returns : goal.returns
returns c = search types_some
