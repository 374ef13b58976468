use borrow.Author.Rules.{rules}
use mathlib.Core.Path.{refl}
use Rattle.derivation_forms.specs.Formed.{item_in, rest_in, rest_falls, chain_end, chain_stop, chain_more}
use Rattle.derivation_listed.specs.Filled.{listed_held}
use Rattle.derivation_needs.proofs.needs.items_listed.Goals as goal

pub loop-l-init : goal.loop-l-init
loop-l-init c = (search rules, refl)

pub key_of-x-requires : goal.key_of-x-requires
key_of-x-requires c = (search rules, search item_in)

pub returns-then-not-is_listed : goal.returns-then-not-is_listed
returns-then-not-is_listed c = search (chain_stop, listed_held)

pub loop-l-smaller : goal.loop-l-smaller
loop-l-smaller c = search rest_falls

pub loop-l-preserved : goal.loop-l-preserved
loop-l-preserved c = (search rest_in, search (chain_more, listed_held))

pub returns : goal.returns
returns c = search chain_end
