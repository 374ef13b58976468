use Rattle.reader.specs.TestLaws.{boths}
use Rattle.proof_fits.specs.Fits.{equality_fits}
use Rattle.proof_fits.proofs.fits_equality.Goals as goal

pub returns-then-not-indices_below : goal.returns-then-not-indices_below
returns-then-not-indices_below c = (search (equality_fits, boths), c.requires.2)

pub returns : goal.returns
returns c = (search (equality_fits, boths), c.fits_places.ensures.1)
