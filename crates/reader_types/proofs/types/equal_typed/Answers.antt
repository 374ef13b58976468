use Rattle.reader_types.specs.Types.{equal_typed_is}
use Rattle.reader_types.proofs.types.equal_typed.Goals as goal

pub returns : goal.returns
returns c = search equal_typed_is
