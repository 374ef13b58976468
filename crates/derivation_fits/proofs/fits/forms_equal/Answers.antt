use Rattle.derivation_fits.specs.Fits.{forms_equal}
use Rattle.derivation_fits.proofs.fits.forms_equal.Goals as goal

pub returns : goal.returns
returns c = search forms_equal
