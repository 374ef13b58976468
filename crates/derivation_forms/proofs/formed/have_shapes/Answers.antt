use borrow.Author.Rules.{rules}
use mathlib.Core.Path.{refl}
use Rattle.derivation_forms.specs.Formed.{item_in, rest_in, rest_falls, key_normal, key_shape, shapes_end, shapes_over, shapes_stop, shapes_more}
use Rattle.derivation_forms.proofs.formed.have_shapes.Goals as goal

pub loop-l-init : goal.loop-l-init
loop-l-init c = (search rules, refl)

pub returns-then-left-eq0 : goal.returns-then-left-eq0
returns-then-left-eq0 c = search shapes_over

pub key_of-x-requires : goal.key_of-x-requires
key_of-x-requires c = (search rules, search item_in)

pub has_shape-requires : goal.has_shape-requires
has_shape-requires c = search key_normal

pub returns-then-not-has_shape : goal.returns-then-not-has_shape
returns-then-not-has_shape c = search (shapes_stop, key_shape)

pub loop-l-smaller : goal.loop-l-smaller
loop-l-smaller c = search rest_falls

pub loop-l-preserved : goal.loop-l-preserved
loop-l-preserved c = (search rest_in, search (shapes_more, key_shape))

pub returns : goal.returns
returns c = search shapes_end
