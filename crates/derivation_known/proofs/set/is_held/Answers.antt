use Rattle.derivation_known.specs.Held.{is_held}
use Rattle.derivation_known.proofs.set.is_held.Goals as goal

pub returns : goal.returns
returns c = is_held _ _ _ c.entry_at-word.ensures
