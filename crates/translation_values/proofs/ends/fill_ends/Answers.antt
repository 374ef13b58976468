use native.Mathlib.Omega.{arith}
use mathlib.Core.Path.{refl, ◌∙◌}
use lib.ListN.{length-set}
use Rattle.translation_values.specs.Ends.{base_first, base_next, base_last, base_bounds, ends_none, ends_more, ends_all, past_kept}
use Rattle.translation_values.proofs.ends.fill_ends.Goals as goal

pub loop-i-init : goal.loop-i-init
loop-i-init c = (omega arith, omega arith, refl, base_first _ _ _, ends_none _ _ _ _, refl)

pub loop-i-preserved : goal.loop-i-preserved
loop-i-preserved c =
    let l = c.loop-i in
    let s = c.size_at-size.ensures in
    let near = base_bounds _ _ _ _ _ c.base_after-base.ensures in (
      omega arith,
      omega (arith, s.most),
      length-set l.ends _ _ ∙ l.invariant.2,
      base_next _ _ _ _ _ _ _ l.invariant.3 s.is c.base_after-base.ensures,
      ends_more _ _ _ l.ends _ _ _ (omega arith) l.invariant.3 s.is l.invariant.4,
      past_kept _ _ l.ends _ _ (omega arith) l.invariant.5,
    )

pub returns : goal.returns
returns c =
    let l = c.loop-i in (base_last _ _ _ _ _ (omega arith) (omega arith) l.invariant.3, ends_all _ _ _ _ _ (omega arith) l.invariant.4, l.invariant.5)
