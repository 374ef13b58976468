use borrow.Author.Rules.{rules}
use Rattle.reader.specs.TestLaws.{boths}
use Rattle.derivation_forms.specs.Formed.{chain_in}
use Rattle.derivation_fits.specs.Fits.{fits_low, fits_high, fits_equality, fits_other}
use Rattle.derivation_fits.proofs.fits.fits.Goals as goal

pub returns-then-k-lt64 : goal.returns-then-k-lt64
returns-then-k-lt64 c = (search fits_low, c.requires.2)

pub returns-then-k-gt80 : goal.returns-then-k-gt80
returns-then-k-gt80 c = (search fits_high, c.requires.2)

pub returns-then-k-eq79 : goal.returns-then-k-eq79
returns-then-k-eq79 c = (search fits_equality, c.equality_fits.ensures.1)

pub are_closed-requires : goal.are_closed-requires
are_closed-requires c = (search rules, search chain_in)

pub returns-then-not-are_closed : goal.returns-then-not-are_closed
returns-then-not-are_closed c = (search (fits_other, boths), c.requires.2)

pub returns : goal.returns
returns c = (search (fits_other, boths), c.letters_fit.ensures.1)
