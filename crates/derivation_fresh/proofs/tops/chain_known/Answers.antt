use borrow.Author.Rules.{rules}
use mathlib.Core.Path.{refl}
use Rattle.derivation_forms.specs.Formed.{item_in, rest_in, rest_falls}
use Rattle.derivation_fresh.specs.Tops.{known_end, known_more, known_not}
use Rattle.derivation_fresh.proofs.tops.chain_known.Goals as goal

pub loop-l-init : goal.loop-l-init
loop-l-init c = (search rules, refl)

pub key_of-x-requires : goal.key_of-x-requires
key_of-x-requires c = (search rules, search item_in)

pub returns-then-not-lacks_known : goal.returns-then-not-lacks_known
returns-then-not-lacks_known c = known_not

pub loop-l-smaller : goal.loop-l-smaller
loop-l-smaller c = search rest_falls

pub loop-l-preserved : goal.loop-l-preserved
loop-l-preserved c = (search rest_in, search known_more)

pub returns : goal.returns
returns c = search known_end
