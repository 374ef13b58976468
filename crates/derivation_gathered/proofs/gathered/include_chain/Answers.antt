use borrow.Author.Rules.{rules}
use mathlib.Core.Path.{refl, ◌∙◌}
use Rattle.derivation_forms.specs.Formed.{item_in, rest_in, rest_falls}
use Rattle.derivation_gathered.proofs.gathered.include_chain.Goals as goal

pub loop-l-init : goal.loop-l-init
loop-l-init c = (refl, search rules, search rules)

pub key_of-x-requires : goal.key_of-x-requires
key_of-x-requires c = (search rules, search item_in)

pub include_key-requires : goal.include_key-requires
include_key-requires c = c.loop-l.invariant.2

pub shape_of-known-then-not-include_key : goal.shape_of-known-then-not-include_key
shape_of-known-then-not-include_key c = c.include_key.auto.known ∙ c.loop-l.invariant.0

pub returns-then-not-include_key : goal.returns-then-not-include_key
returns-then-not-include_key c = c.include_key.ensures

pub loop-l-smaller : goal.loop-l-smaller
loop-l-smaller c = search rest_falls

pub loop-l-preserved : goal.loop-l-preserved
loop-l-preserved c = (c.include_key.auto.known ∙ c.loop-l.invariant.0, search rest_in, c.include_key.ensures)
