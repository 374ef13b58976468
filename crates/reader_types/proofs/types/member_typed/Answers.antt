use Rattle.reader_types.specs.Types.{member_typed_is}
use Rattle.reader_types.proofs.types.member_typed.Goals as goal

pub returns : goal.returns
returns c = search member_typed_is
