use Rattle.reader_equality.specs.Tables.{zeros_filled}
use Rattle.proof_fresh.proofs.fresh.is_fresh.Goals as goal

pub returns : goal.returns
returns c = (c.none_marked-r.ensures, zeros_filled _ _ (c.fill.ensures.after (λ y e. e)))
