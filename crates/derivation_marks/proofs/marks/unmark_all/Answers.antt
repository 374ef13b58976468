use native.Mathlib.Omega.{arith}
use mathlib.Core.Path.{refl}
use Rattle.derivation_marks.specs.Marks.{without_mark, changed_none, changed_more, changed_end}
use Rattle.derivation_marks.proofs.marks.unmark_all.Goals as goal

pub loop-i-init : goal.loop-i-init
loop-i-init c = (omega arith, changed_none _ _ _)

pub loop-i-preserved : goal.loop-i-preserved
unfolding without_mark
loop-i-preserved c = let l = c.loop-i in (omega arith, changed_more _ _ _ l.i _ l.reaches (omega (arith, l.auto.reaches)) l.auto.i l.invariant.1 refl)

pub returns : goal.returns
returns c = changed_end _ _ _ _ _ _ c.loop-i-test.false c.loop-i.invariant.0 c.loop-i.invariant.1
