use Rattle.reader_types.specs.Types.{pair_typed_is}
use Rattle.reader_types.proofs.types.pair_typed.Goals as goal

pub returns : goal.returns
returns c = search pair_typed_is
