use Rattle.reader_equality.specs.Tables.{zeros_filled}
use Rattle.reader_typing.proofs.applications.signature_holds.Goals as goal

pub returns : goal.returns
returns c = (c.signature_fits-r.ensures, zeros_filled _ _ (c.fill.ensures.after (λ y e. e)))
