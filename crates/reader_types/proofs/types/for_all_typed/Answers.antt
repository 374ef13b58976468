use Rattle.reader_types.specs.Types.{for_all_typed_is}
use Rattle.reader_types.proofs.types.for_all_typed.Goals as goal

pub returns : goal.returns
returns c = search for_all_typed_is
