use borrow.Author.Rules.{rules}
use Rattle.reader.specs.TestLaws.{ifs}
use Rattle.proof_fits.specs.Fits.{further}
use Rattle.proof_fits.proofs.fits_further.Goals as goal

pub returns-then-k-eq35 : goal.returns-then-k-eq35
unfolding further
returns-then-k-eq35 c = (search ifs, c.requires.2)

pub returns-then-k-lt43 : goal.returns-then-k-lt43
unfolding further
returns-then-k-lt43 c = (search ifs, c.requires.2)

pub shape_of-seen-then-k-eq43 : goal.shape_of-seen-then-k-eq43
unfolding further
shape_of-seen-then-k-eq43 c = search rules

pub returns-then-k-eq43 : goal.returns-then-k-eq43
unfolding further
returns-then-k-eq43 c = (search ifs, c.fits_quantified.ensures.1)

pub shape_of-seen-then-k-eq44 : goal.shape_of-seen-then-k-eq44
unfolding further
shape_of-seen-then-k-eq44 c = search rules

pub returns-then-k-eq44 : goal.returns-then-k-eq44
unfolding further
returns-then-k-eq44 c = (search ifs, c.fits_quantified-then-k-eq44.ensures.1)

pub shape_of-seen-then-k-eq45 : goal.shape_of-seen-then-k-eq45
unfolding further
shape_of-seen-then-k-eq45 c = search rules

pub returns-then-k-eq45 : goal.returns-then-k-eq45
unfolding further
returns-then-k-eq45 c = (search ifs, c.fits_instance.ensures.1)

pub shape_of-seen : goal.shape_of-seen
unfolding further
shape_of-seen c = search rules

pub returns : goal.returns
unfolding further
returns c = (search ifs, c.fits_equality.ensures.1)
