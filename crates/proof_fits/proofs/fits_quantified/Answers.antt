use Rattle.reader.specs.TestLaws.{boths}
use Rattle.proof_fits.specs.Fits.{quantified_fits}
use Rattle.proof_fits.proofs.fits_quantified.Goals as goal

pub returns-then-not-same_at : goal.returns-then-not-same_at
returns-then-not-same_at c = (search (quantified_fits, boths), c.requires.2)

pub returns : goal.returns
returns c = (search (quantified_fits, boths), c.is_replaced.ensures.1)
