use Rattle.std.proofs.Common.{◌∙◌}
use Rattle.favashears.specs.Unpacked.{proof_unpacks}
use Rattle.favashears.proofs.entries.desk_check_proof.Goals as goal

pub returns : goal.returns
returns c = proof_unpacks _ _ _ _ c.pack.ensures (c.of.ensures ∙ c.check_proof.ensures)
