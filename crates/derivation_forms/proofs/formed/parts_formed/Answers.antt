use borrow.Author.Rules.{rules}
use Rattle.derivation_forms.specs.Formed.{formed_varying, formed_counted, chain_in}
use Rattle.derivation_forms.proofs.formed.parts_formed.Goals as goal

pub are_formulas-requires : goal.are_formulas-requires
are_formulas-requires c = (search rules, search chain_in)

pub returns-then-count-eq15 : goal.returns-then-count-eq15
returns-then-count-eq15 c = search formed_varying

pub have_shapes-requires : goal.have_shapes-requires
have_shapes-requires c = (search rules, search chain_in)

pub returns : goal.returns
returns c = search formed_counted
