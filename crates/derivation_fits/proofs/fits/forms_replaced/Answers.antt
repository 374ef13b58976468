use borrow.Author.Rules.{rules}
use Rattle.derivation_members.specs.Needs.{form_normal}
use Rattle.derivation_fits.specs.Fits.{forms_replaced}
use Rattle.derivation_fits.proofs.fits.forms_replaced.Goals as goal

pub is_replaced-requires : goal.is_replaced-requires
is_replaced-requires c = (search rules, search rules, search form_normal, search form_normal, search form_normal)

pub returns : goal.returns
returns c = (search forms_replaced, c.is_replaced.ensures.1)
