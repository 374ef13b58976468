use Rattle.reader.specs.TestLaws.{both_stop, boths}
use Rattle.proof_fits.specs.Fits.{places_fit}
use Rattle.std.proofs.Common.{ap, not}
use Rattle.proof_fits.proofs.fits_places.Goals as goal

pub returns-then-not-same_at : goal.returns-then-not-same_at
returns-then-not-same_at c =
    (places_fit _ _ _ _ _ _ _ _ c.item_at-body.ensures c.item_at-t.ensures c.item_at-u.ensures c.type_at-t_type.ensures c.type_at-u_type.ensures (both_stop _ _ _ c.same_at.ensures (ap not c.if-not-same_at.true)), c.requires.2)

pub bears-requires : goal.bears-requires
bears-requires c = c.requires

pub returns-then-not-bears : goal.returns-then-not-bears
returns-then-not-bears c = (search (places_fit, boths), c.bears.ensures.1)

pub fits_replaced-requires : goal.fits_replaced-requires
fits_replaced-requires c = let p = c.requires in (p.0, p.1, c.bears.ensures.1)

pub returns : goal.returns
returns c = (search (places_fit, boths), c.fits_replaced.ensures.1)
