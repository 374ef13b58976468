use native.Mathlib.Omega.{arith}
use Rattle.derivation_marks.specs.Marks.{changed_none, changed_more, changed_end, changed_marked, next_unmarked}
use Rattle.derivation_marks.proofs.marks.mark_all.Goals as goal

pub loop-j-init : goal.loop-j-init
loop-j-init c = (omega arith, changed_none _ _ _)

pub marked_entry-requires : goal.marked_entry-requires
marked_entry-requires c =
    let l = c.loop-j in let p = c.requires in (omega (arith, l.auto.reaches), next_unmarked _ _ _ _ _ p.1 l.invariant.1, changed_marked _ _ _ _ _ p.1 l.invariant.1)

pub loop-j-preserved : goal.loop-j-preserved
loop-j-preserved c = let l = c.loop-j in (omega arith, changed_more _ _ _ l.j _ l.reaches (omega (arith, l.auto.reaches)) l.auto.j l.invariant.1 c.marked_entry.ensures)

pub returns : goal.returns
returns c =
    let l = c.loop-j in let e = changed_end _ _ _ _ _ _ c.loop-j-test.false l.invariant.0 l.invariant.1 in (changed_marked _ _ _ _ _ c.requires.1 e, e)
