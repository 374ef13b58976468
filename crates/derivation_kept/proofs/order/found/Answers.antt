use borrow.Author.Rules.{rules}
use Rattle.derivation_forms.specs.Formed.{item_in, rest_in, rest_falls}
use Rattle.derivation_kept.specs.Order.{behind_self, behind_next, found_none, found_here}
use Rattle.derivation_kept.proofs.order.found.Goals as goal

pub loop-q-init : goal.loop-q-init
loop-q-init c = (search rules, behind_self _ _)

pub key_of-k-requires : goal.key_of-k-requires
key_of-k-requires c = (search rules, search item_in)

pub returns-then-k-x : goal.returns-then-k-x
returns-then-k-x c = search found_here

pub loop-q-smaller : goal.loop-q-smaller
loop-q-smaller c = search rest_falls

pub loop-q-preserved : goal.loop-q-preserved
loop-q-preserved c = (search rest_in, search behind_next)

pub returns : goal.returns
returns c = search found_none
