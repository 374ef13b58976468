use borrow.Author.Rules.{rules}
use mathlib.Core.Path.{refl}
use Rattle.derivation_forms.specs.Formed.{item_in, rest_in, rest_falls, key_normal, chain_end, chain_stop, chain_more}
use Rattle.derivation_fits.specs.Fits.{closed_key}
use Rattle.derivation_fits.proofs.fits.are_closed.Goals as goal

pub loop-l-init : goal.loop-l-init
loop-l-init c = (search rules, refl)

pub key_of-x-requires : goal.key_of-x-requires
key_of-x-requires c = (search rules, search item_in)

pub is_below-requires : goal.is_below-requires
is_below-requires c = (search key_normal, search rules, search rules)

pub returns-then-not-is_below : goal.returns-then-not-is_below
returns-then-not-is_below c = search (chain_stop, closed_key)

pub loop-l-smaller : goal.loop-l-smaller
loop-l-smaller c = search rest_falls

pub loop-l-preserved : goal.loop-l-preserved
loop-l-preserved c = (search rest_in, search (chain_more, closed_key))

pub returns : goal.returns
returns c = search chain_end
