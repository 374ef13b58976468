use Rattle.derivation_fits.specs.Fits.{letters_equal, letters_none, letters_replaced}
use Rattle.derivation_fits.proofs.fits.letters_fit.Goals as goal

pub returns-then-a-ne0 : goal.returns-then-a-ne0
returns-then-a-ne0 c = (search letters_equal, c.requires.2)

pub returns-then-x-eq0 : goal.returns-then-x-eq0
returns-then-x-eq0 c = (search letters_none, c.requires.2)

pub returns : goal.returns
returns c = (search letters_replaced, c.forms_replaced.ensures.1)
