use Rattle.translation_values.specs.Values.{part_is}
use Rattle.translation_values.proofs.values.part_at.Goals as goal

pub returns : goal.returns
returns c = search part_is
