use Rattle.proof_fits.specs.Fits.{equation_fits}
use Rattle.proof_fits.proofs.fits_equation.Goals as goal

pub returns : goal.returns
returns c = search equation_fits
