use Rattle.reader_types.specs.Types.{own_type}
use Rattle.reader_types.proofs.types.first_type.Goals as goal

pub returns : goal.returns
returns c = search own_type
