use Rattle.proof_fits.specs.Fits.{instance_fits}
use Rattle.proof_fits.proofs.fits_instance.Goals as goal

pub returns : goal.returns
returns c = (search instance_fits, c.same_instance.ensures.1)
