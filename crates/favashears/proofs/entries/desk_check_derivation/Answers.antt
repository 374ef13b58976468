use Rattle.std.proofs.Common.{◌∙◌}
use Rattle.favashears.specs.Unpacked.{derivation_unpacks}
use Rattle.favashears.proofs.entries.desk_check_derivation.Goals as goal

pub returns : goal.returns
returns c = derivation_unpacks _ _ _ _ c.pack.ensures (c.of.ensures ∙ c.check_derivation.ensures)
