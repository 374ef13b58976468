use Rattle.reader.specs.TestLaws.{boths}
use Rattle.proof_fits.specs.Fits.{replaced_fits}
use Rattle.proof_fits.proofs.fits_replaced.Goals as goal

pub returns-then-not-is_replaced : goal.returns-then-not-is_replaced
returns-then-not-is_replaced c = (search (replaced_fits, boths), c.is_replaced.ensures.1)

pub is_replaced-requires-2 : goal.is_replaced-requires-2
is_replaced-requires-2 c = let p = c.requires in (p.0, p.1, c.is_replaced.ensures.1)

pub returns : goal.returns
returns c = (search (replaced_fits, boths), c.is_replaced-2.ensures.1)
