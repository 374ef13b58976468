use Rattle.reader_types.specs.Types.{constant_typed_is}
use Rattle.reader_types.proofs.types.constant_typed.Goals as goal

pub returns : goal.returns
returns c = search constant_typed_is
