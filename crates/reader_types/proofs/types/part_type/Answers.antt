use Rattle.reader_types.specs.Types.{part_type_is}
use Rattle.reader_types.proofs.types.part_type.Goals as goal

pub returns : goal.returns
returns c = search part_type_is
