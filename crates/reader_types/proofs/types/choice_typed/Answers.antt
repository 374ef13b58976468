use Rattle.reader_types.specs.Types.{choice_typed_is}
use Rattle.reader_types.proofs.types.choice_typed.Goals as goal

pub returns : goal.returns
returns c = search choice_typed_is
