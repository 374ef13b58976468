use native.Mathlib.Omega.{arith}
use mathlib.Core.Path.{◌∙◌}
use Rattle.derivation_members.specs.Members.{frame_next}
use Rattle.derivation_listed.specs.Filled.{outside_self, outside_entry, added_start, added_low, added_filled, added_next}
use Rattle.derivation_listed.proofs.filled.fill_added.Goals as goal

pub loop-f-init : goal.loop-f-init
loop-f-init c = (search added_start, outside_self _ _, omega arith)

pub entry_at-e-requires : goal.entry_at-e-requires
entry_at-e-requires c = search frame_next

pub fill_entry-n-requires : goal.fill_entry-n-requires
fill_entry-n-requires c = search added_low

pub loop-f-preserved : goal.loop-f-preserved
loop-f-preserved c =
    let p = c.requires in let l = c.loop-f in let
    e = c.fill_entry-n.ensures in let o = outside_entry _ _ _ _ _ _ l.invariant.1 e.0 e.1 in (
      added_next _ _ _ _ _ p.0 p.1 _ _ _ l.invariant.0 l.auto.f
          c.loop-f-test.true _ c.entry_at-e.ensures _ _ (l.auto.listed ∙ p.2) e.0 e.1,
      o.0,
      omega (arith, l.invariant.2, o.1),
    )

pub returns : goal.returns
returns c = let l = c.loop-f.invariant in (search added_filled, l.1, l.2)
