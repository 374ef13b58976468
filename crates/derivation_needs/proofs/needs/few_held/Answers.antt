use borrow.Author.Rules.{rules}
use mathlib.Core.Path.{refl, sym, ◌∙◌}
use Rattle.derivation_forms.specs.Formed.{item_in, rest_in, rest_falls, key_normal, chain_end, chain_stop, chain_more}
use Rattle.derivation_members.specs.Needs.{held_key}
use Rattle.derivation_needs.proofs.needs.few_held.Goals as goal

pub loop-l-init : goal.loop-l-init
loop-l-init c = (search rules, refl)

pub returns-then-left-eq0 : goal.returns-then-left-eq0
returns-then-left-eq0 c = c.many_held.ensures ∙ sym c.loop-l.invariant.1

pub key_of-x-requires : goal.key_of-x-requires
key_of-x-requires c = (search rules, search item_in)

pub holds-requires : goal.holds-requires
holds-requires c = (search rules, search rules, search key_normal, search rules)

pub returns-then-not-holds : goal.returns-then-not-holds
returns-then-not-holds c = search (chain_stop, held_key)

pub loop-l-smaller : goal.loop-l-smaller
loop-l-smaller c = search rest_falls

pub loop-l-preserved : goal.loop-l-preserved
loop-l-preserved c = (search rest_in, search (chain_more, held_key))

pub returns : goal.returns
returns c = search chain_end
