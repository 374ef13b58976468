use Rattle.reader_equality.specs.Tables.{zeros_filled}
use Rattle.reader_instances.specs.Signatures.{known_none}
use Rattle.reader_typing.proofs.applications.signature_below.Goals as goal

pub items_below-r-requires : goal.items_below-r-requires
items_below-r-requires c = known_none _ _ _ c.requires

pub returns : goal.returns
returns c = (c.items_below-r.ensures, zeros_filled _ _ (c.fill.ensures.after (λ y e. e)))
