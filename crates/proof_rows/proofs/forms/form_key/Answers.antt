use borrow.Author.Rules.{rules}
use Rattle.proof_rows.specs.Paths.{path_in}
use Rattle.proof_rows.specs.Forms.{key_unequal, key_negated, key_plain}
use Rattle.proof_rows.proofs.forms.form_key.Goals as goal

pub unequal_key-requires : goal.unequal_key-requires
unequal_key-requires c = (search rules, search path_in, search path_in)

pub returns-then-form-lt8 : goal.returns-then-form-lt8
returns-then-form-lt8 c = search key_unequal

pub negated_key-requires : goal.negated_key-requires
negated_key-requires c = (search rules, search path_in)

pub returns-then-form-eq1 : goal.returns-then-form-eq1
returns-then-form-eq1 c = search key_negated

pub key_of-requires : goal.key_of-requires
key_of-requires c = (search rules, search path_in)

pub returns : goal.returns
returns c = search key_plain
