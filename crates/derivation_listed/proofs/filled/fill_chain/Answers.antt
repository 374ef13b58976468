use borrow.Author.Rules.{rules}
use native.Mathlib.Omega.{arith}
use mathlib.Core.Path.{refl, ◌∙◌}
use Rattle.derivation_forms.specs.Formed.{item_in, rest_in, rest_falls}
use Rattle.derivation_listed.specs.Filled.{outside_self, outside_next, filled_none, chain_filled, chain_room, chain_next}
use Rattle.derivation_listed.proofs.filled.fill_chain.Goals as goal

pub loop-l-init : goal.loop-l-init
loop-l-init c = (refl, search rules, filled_none _ _ _ _, outside_self _ _)

pub key_of-x-requires : goal.key_of-x-requires
key_of-x-requires c = (search rules, search item_in)

pub overflow_add-n : goal.overflow_add-n
overflow_add-n c =
    omega (
      arith,
      c.requires.2,
      chain_room _ _ _ _ _ _ c.loop-l.invariant.2
          c.loop-l-test.true _ _ c.link_at-link.ensures.item_is c.key_of-x.ensures,
    )

pub overflow_add-n-in-loop-l : goal.overflow_add-n-in-loop-l
overflow_add-n-in-loop-l c =
    omega (
      arith,
      c.requires.2,
      chain_room _ _ _ _ _ _
          c.loop-l.invariant.2 c.loop-l-test.true _ _
          c.link_at-link.ensures.item_is c.key_of-x.ensures,
    )

pub loop-l-smaller : goal.loop-l-smaller
loop-l-smaller c = search rest_falls

pub loop-l-preserved : goal.loop-l-preserved
loop-l-preserved c =
    let p = c.requires in let l =
    c.loop-l.invariant in let k = c.link_at-link.ensures in (
      search rules,
      search rest_in,
      chain_next _ _ _ _ _ _ l.2 c.loop-l-test.true _ _
          k.item_is c.key_of-x.ensures _ _ k.next_is
          c.store.ensures p.2 (l.0 ∙ p.3),
      outside_next _ _ _ _ _ l.3 c.store.ensures,
    )

pub returns : goal.returns
returns c = let l = c.loop-l.invariant in (search chain_filled, l.3)
