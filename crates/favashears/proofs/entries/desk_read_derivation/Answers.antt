use Rattle.std.proofs.Common.{◌∙◌}
use Rattle.favashears.specs.Unpacked.{reading_derivation_unpacks}
use Rattle.favashears.proofs.entries.desk_read_derivation.Goals as goal

pub returns : goal.returns
returns c = reading_derivation_unpacks _ _ _ _ c.pack.ensures (c.of_reading.ensures ∙ c.read_derivation.ensures)
