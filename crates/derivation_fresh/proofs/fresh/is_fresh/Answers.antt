use borrow.Author.Rules.{rules}
use native.Mathlib.Omega.{arith}
use Rattle.derivation_marks.specs.Marks.{marks_off}
use Rattle.derivation_fresh.proofs.fresh.is_fresh.Goals as goal

pub none_marked-fresh-requires : goal.none_marked-fresh-requires
none_marked-fresh-requires c =
    let p = c.requires in let t = c.settled_top-top.ensures in let marks = c.mark_all in
    (p.0, p.1, t.0, t.1, omega (arith, p.2, marks.auto.reaches), marks.ensures.0, t.2)

pub returns : goal.returns
returns c =
    let found = c.none_marked-fresh.ensures in (
      found.0,
      marks_off _ _ _ _ _ c.requires.3 c.mark_all.ensures.1 _ (search rules) c.unmark_all.ensures,
      found.1,
    )
