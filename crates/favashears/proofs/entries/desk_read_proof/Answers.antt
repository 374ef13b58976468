use Rattle.std.proofs.Common.{◌∙◌}
use Rattle.favashears.specs.Unpacked.{reading_proof_unpacks}
use Rattle.favashears.proofs.entries.desk_read_proof.Goals as goal

pub returns : goal.returns
returns c = reading_proof_unpacks _ _ _ _ c.pack.ensures (c.of_reading.ensures ∙ c.read_proof.ensures)
