use Rattle.derivation_forms.specs.Forms.{form_self, form_first, form_second, form_negated, source_normal, source_few}
use Rattle.derivation_forms.proofs.forms.form_in.Goals as goal

pub returns-then-form-eq0 : goal.returns-then-form-eq0
returns-then-form-eq0 c = search form_self

pub returns-then-form-eq1 : goal.returns-then-form-eq1
returns-then-form-eq1 c = search form_first

pub returns-then-form-eq2 : goal.returns-then-form-eq2
returns-then-form-eq2 c = search form_second

pub negated-requires : goal.negated-requires
negated-requires c = (search source_normal, search source_few)

pub returns : goal.returns
returns c = search form_negated
