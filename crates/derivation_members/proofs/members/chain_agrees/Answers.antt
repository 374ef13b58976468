use borrow.Author.Rules.{rules}
use mathlib.Core.Path.{refl}
use Rattle.derivation_forms.specs.Formed.{item_in, rest_in, rest_falls, key_normal, chain_end, chain_stop, chain_more}
use Rattle.derivation_members.specs.Members.{agrees_key}
use Rattle.derivation_members.proofs.members.chain_agrees.Goals as goal

pub loop-l-init : goal.loop-l-init
loop-l-init c = (search rules, refl)

pub key_of-x-requires : goal.key_of-x-requires
key_of-x-requires c = (search rules, search item_in)

pub key_agrees-requires : goal.key_agrees-requires
key_agrees-requires c = (search key_normal, search rules)

pub returns-then-not-key_agrees : goal.returns-then-not-key_agrees
returns-then-not-key_agrees c = search (chain_stop, agrees_key)

pub loop-l-smaller : goal.loop-l-smaller
loop-l-smaller c = search rest_falls

pub loop-l-preserved : goal.loop-l-preserved
loop-l-preserved c = (search rest_in, search (chain_more, agrees_key))

pub returns : goal.returns
returns c = search chain_end
