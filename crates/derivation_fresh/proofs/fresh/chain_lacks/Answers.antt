use borrow.Author.Rules.{rules}
use mathlib.Core.Path.{refl, ◌∙◌}
use Rattle.derivation_forms.specs.Formed.{item_in, rest_in, rest_most, item_falls, rest_falls, chain_end, chain_stop, chain_more}
use Rattle.derivation_fresh.specs.Fresh.{lacks_tree, item_narrow}
use Rattle.derivation_fresh.proofs.fresh.chain_lacks.Goals as goal

pub loop-l-init : goal.loop-l-init
loop-l-init c = (refl, search rules, search rules, refl, search rules)

pub key_of-x-requires : goal.key_of-x-requires
key_of-x-requires c = (search rules, search item_in)

pub key_lacks-requires : goal.key_lacks-requires
key_lacks-requires c = (
  search rules,
  item_narrow _ _ _ _ _ _ c.requires.0 c.key_of-x.ensures
      (item_falls _ _ _ c.loop-l-test.true c.lower_at-item.ensures) c.loop-l.invariant.2 c.loop-l.invariant.1,
  search rules,
)

pub shape_of-known-then-not-key_lacks : goal.shape_of-known-then-not-key_lacks
shape_of-known-then-not-key_lacks c = c.key_lacks.auto.known ∙ c.loop-l.invariant.0

pub returns-then-not-key_lacks : goal.returns-then-not-key_lacks
returns-then-not-key_lacks c = (search (chain_stop, lacks_tree), search rules)

pub loop-l-smaller : goal.loop-l-smaller
loop-l-smaller c = search rest_falls

pub loop-l-preserved : goal.loop-l-preserved
loop-l-preserved c =
    (c.key_lacks.auto.known ∙ c.loop-l.invariant.0, search rest_in, search rest_most, search (chain_more, lacks_tree), search rules)

pub shape_of-known : goal.shape_of-known
shape_of-known c = c.loop-l.invariant.0

pub returns : goal.returns
returns c = (search chain_end, search rules)
