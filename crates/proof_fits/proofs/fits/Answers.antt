use Rattle.proof_fits.specs.Fits.{fits_low, fits_high, fits_open, fits_more}
use Rattle.proof_fits.proofs.fits.Goals as goal

pub returns-then-k-lt32 : goal.returns-then-k-lt32
returns-then-k-lt32 c = (search fits_low, c.requires.2)

pub returns-then-k-gt46 : goal.returns-then-k-gt46
returns-then-k-gt46 c = (search fits_high, c.requires.2)

pub returns-then-not-are_closed : goal.returns-then-not-are_closed
returns-then-not-are_closed c = (search fits_open, c.requires.2)

pub returns : goal.returns
returns c = (search fits_more, c.fits_further.ensures.1)
