use borrow.Author.Rules.{rules}
use mathlib.Core.Path.{◌∙◌}
use Rattle.reader.specs.TestLaws.{boths}
use Rattle.derivation_members.specs.Needs.{form_normal}
use Rattle.derivation_fits.specs.Fits.{equality_parts, rest_below}
use Rattle.derivation_fits.proofs.fits.equality_fits.Goals as goal

pub is_below-requires : goal.is_below-requires
is_below-requires c = (search form_normal, search rules, search rules)

pub returns-then-not-is_below : goal.returns-then-not-is_below
returns-then-not-is_below c = (search (equality_parts, boths), c.requires.2)

pub are_closed-requires : goal.are_closed-requires
are_closed-requires c = (search rules, search rest_below)

pub returns-then-not-are_closed : goal.returns-then-not-are_closed
returns-then-not-are_closed c = (search (equality_parts, boths), c.requires.2)

pub forms_replaced-requires : goal.forms_replaced-requires
forms_replaced-requires c = c.requires

pub returns-then-not-forms_replaced : goal.returns-then-not-forms_replaced
returns-then-not-forms_replaced c = (search (equality_parts, boths), c.forms_replaced.ensures.1)

pub forms_replaced-requires-2 : goal.forms_replaced-requires-2
forms_replaced-requires-2 c = let p = c.requires in (p.0, p.1, c.forms_replaced.ensures.1)

pub shape_of-known : goal.shape_of-known
shape_of-known c = c.forms_replaced-2.auto.known ∙ c.forms_replaced.auto.known

pub returns : goal.returns
returns c = (search (equality_parts, boths), c.forms_replaced-2.ensures.1)
