use borrow.Author.Rules.{rules}
use Rattle.derivation_forms.specs.Formed.{chain_in}
use Rattle.derivation_members.specs.Needs.{at_given, form_normal, held_form, needs_parts, needs_none, needs_one}
use Rattle.derivation_needs.proofs.needs.needs_met.Goals as goal

pub items_held-requires : goal.items_held-requires
items_held-requires c = (search rules, search chain_in)

pub returns-then-k-eq65 : goal.returns-then-k-eq65
returns-then-k-eq65 c = search needs_parts

pub returns-then-form-eq0 : goal.returns-then-form-eq0
returns-then-form-eq0 c = search needs_none

pub form_in-key-requires : goal.form_in-key-requires
form_in-key-requires c = (search at_given, search rules)

pub holds-requires : goal.holds-requires
holds-requires c = (search rules, search rules, search form_normal, search rules)

pub returns : goal.returns
returns c = search (needs_one, held_form)
