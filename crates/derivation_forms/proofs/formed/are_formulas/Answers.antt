use borrow.Author.Rules.{rules}
use mathlib.Core.Path.{refl}
use Rattle.derivation_forms.specs.Formed.{item_in, rest_in, rest_falls, key_normal, key_formula, chain_end, chain_stop, chain_more}
use Rattle.derivation_forms.proofs.formed.are_formulas.Goals as goal

pub loop-l-init : goal.loop-l-init
loop-l-init c = (search rules, refl)

pub key_of-x-requires : goal.key_of-x-requires
key_of-x-requires c = (search rules, search item_in)

pub is_formula-requires : goal.is_formula-requires
is_formula-requires c = search key_normal

pub returns-then-not-is_formula : goal.returns-then-not-is_formula
returns-then-not-is_formula c = search (chain_stop, key_formula)

pub loop-l-smaller : goal.loop-l-smaller
loop-l-smaller c = search rest_falls

pub loop-l-preserved : goal.loop-l-preserved
loop-l-preserved c = (search rest_in, search (chain_more, key_formula))

pub returns : goal.returns
returns c = search chain_end
