use native.Mathlib.Omega.{arith}
use mathlib.Core.Path.{refl, sym, ◌∙◌}
use borrow.Author.Tests.{not-true, not-false}
use Rattle.derivation_paths.specs.Paths.{depth_room}
use Rattle.derivation_replacement.specs.Replaced.{fits_heads, fits_others, fits_next, fits_part_is, others_first, others_second}
use Rattle.derivation_replacement.specs.Settled.{open_some, asking_after, asking_part, asking_left}
use Rattle.std.proofs.Common.{ap, not}
use Rattle.derivation_replacement.proofs.replace.+fits_at_fits_below_fits_part_others_fit.Goals as goal

pub fits_at-settled-s-requires : goal.fits_at-settled-s-requires
fits_at-settled-s-requires t c = c.requires

pub fits_at-returns-then-s-ne2 : goal.fits_at-returns-then-s-ne2
fits_at-returns-then-s-ne2 t c = (c.settled-s.ensures.plain c.if-s-ne2.true, c.requires.facts)

pub fits_at-fits_below-requires : goal.fits_at-fits_below-requires
fits_at-fits_below-requires t c = (omega (arith, c.decreases), (c.requires, c.settled-s.ensures.parts c.if-s-ne2.false))

pub fits_at-returns-then-not-fits_below : goal.fits_at-returns-then-not-fits_below
fits_at-returns-then-not-fits_below t c = let e = c.fits_below.ensures in (sym (not-true _ (ap not c.if-not-fits_below.true)) ∙ e.0, e.1)

pub fits_at-returns : goal.fits_at-returns
fits_at-returns t c =
    let e = c.fits_below.ensures in let found = sym (not-false _ (ap not c.if-not-fits_below.false)) ∙ e.0 in (found, c.keep_fits.ensures.keeps _ e.1 (sym found))

pub fits_below-loop-init : goal.fits_below-loop-init
fits_below-loop-init t c = let p = c.requires in (p.0, p.1, refl, omega arith)

pub fits_below-heads_fit-requires : goal.fits_below-heads_fit-requires
fits_below-heads_fit-requires t c = let l = c.loop.invariant in (l.0.whole, l.0.body)

pub fits_below-returns-then-not-heads_fit : goal.fits_below-returns-then-not-heads_fit
fits_below-returns-then-not-heads_fit t c =
    let l = c.loop.invariant in (fits_heads _ _ _ _ _ _ l.0.whole l.0.body _ l.1.some refl _ l.1.other refl _ c.heads_fit.ensures (ap not c.if-not-heads_fit.true) ∙ sym l.2, l.0.facts)

pub fits_below-last_part-w-requires : goal.fits_below-last_part-w-requires
fits_below-last_part-w-requires t c = let l = c.loop.invariant in (l.0.tables, l.0.body)

pub fits_below-others_fit-requires : goal.fits_below-others_fit-requires
fits_below-others_fit-requires t c = let l = c.loop.invariant in (omega (arith, c.decreases, l.3), (l.0, open_some _ _ _ l.1))

pub fits_below-returns-then-not-others_fit : goal.fits_below-returns-then-not-others_fit
fits_below-returns-then-not-others_fit t c =
    let l = c.loop.invariant in let w = c.last_part-w.ensures in (fits_others _ _ _ _ _ _ l.0.whole l.0.body _ l.1.some refl _ l.1.other refl _ c.heads_fit.ensures (ap not c.if-not-heads_fit.false) _ w.1 w.2 _ c.others_fit.ensures.0 (ap not c.if-not-others_fit.true) ∙ sym l.2, c.others_fit.ensures.1)

pub fits_below-part_depth-f-requires : goal.fits_below-part_depth-f-requires
fits_below-part_depth-f-requires t c =
    let l = c.loop.invariant in let some = open_some _ _ _ l.1 in (l.0.body, depth_room _ _ some l.0.room)

pub fits_below-part_of-u-requires : goal.fits_below-part_of-u-requires
fits_below-part_of-u-requires t c =
    let l = c.loop.invariant in let w = c.last_part-w.ensures in (l.0.tables.table, l.0.whole, w.1, w.2)

pub fits_below-part_of-v-requires : goal.fits_below-part_of-v-requires
fits_below-part_of-v-requires t c =
    let l = c.loop.invariant in let w = c.last_part-w.ensures in (l.0.tables.table, l.0.body, w.1, w.2)

pub fits_below-follow-rest-requires : goal.fits_below-follow-rest-requires
fits_below-follow-rest-requires t c =
    let l = c.loop.invariant in let some = open_some _ _ _ l.1 in let a = asking_part _ _ _ _ _ _ _ _ _ l.0 c.others_fit.ensures.1 _ _ _ _ _ some c.part_depth-f.ensures.1 c.part_of-u.ensures c.part_of-v.ensures in (a.tables, a.whole, a.body, a.room)

pub fits_below-settled-s-requires : goal.fits_below-settled-s-requires
fits_below-settled-s-requires t c =
    let l = c.loop.invariant in let some = open_some _ _ _ l.1 in asking_left _ _ _ _ _ _ _ _ _ (asking_part _ _ _ _ _ _ _ _ _ l.0 c.others_fit.ensures.1 _ _ _ _ _ some c.part_depth-f.ensures.1 c.part_of-u.ensures c.part_of-v.ensures) c.follow-rest.ensures

pub fits_below-returns-then-s-ne2 : goal.fits_below-returns-then-s-ne2
fits_below-returns-then-s-ne2 t c =
    let l = c.loop.invariant in let w = c.last_part-w.ensures in (c.settled-s.ensures.plain c.if-s-ne2.true ∙ sym (l.2 ∙ fits_next _ _ _ _ _ _ l.0.whole l.0.body _ l.1.some refl _ l.1.other refl _ c.heads_fit.ensures (ap not c.if-not-heads_fit.false) _ w.1 w.2 _ c.others_fit.ensures.0 (ap not c.if-not-others_fit.false) _ _ _ c.part_depth-f.ensures.0 c.part_of-u.ensures c.part_of-v.ensures ∙ c.follow-rest.ensures.asked _), c.others_fit.ensures.1)

pub fits_below-loop-preserved : goal.fits_below-loop-preserved
fits_below-loop-preserved t c =
    let l = c.loop.invariant in let w = c.last_part-w.ensures in let some = open_some _ _ _ l.1 in let g = c.follow-rest.ensures in let f = c.part_of-v.ensures.falls some in (asking_left _ _ _ _ _ _ _ _ _ (asking_part _ _ _ _ _ _ _ _ _ l.0 c.others_fit.ensures.1 _ _ _ _ _ some c.part_depth-f.ensures.1 c.part_of-u.ensures c.part_of-v.ensures) g, c.settled-s.ensures.parts c.if-s-ne2.false, l.2 ∙ fits_next _ _ _ _ _ _ l.0.whole l.0.body _ l.1.some refl _ l.1.other refl _ c.heads_fit.ensures (ap not c.if-not-heads_fit.false) _ w.1 w.2 _ c.others_fit.ensures.0 (ap not c.if-not-others_fit.false) _ _ _ c.part_depth-f.ensures.0 c.part_of-u.ensures c.part_of-v.ensures ∙ g.asked _, omega (arith, f, g.low, l.3))

pub fits_below-fits_at-requires : goal.fits_below-fits_at-requires
fits_below-fits_at-requires t c = let l = c.loop.invariant in (omega (arith, c.decreases, l.3, c.loop-test.false), l.0)

pub fits_below-returns : goal.fits_below-returns
fits_below-returns t c = let l = c.loop.invariant in let e = c.fits_at.ensures in (e.0 ∙ sym l.2, e.1)

pub fits_part-part_depth-e-requires : goal.fits_part-part_depth-e-requires
fits_part-part_depth-e-requires t c = let q = c.requires in (q.0.body, depth_room _ _ q.1 q.0.room)

pub fits_part-part_of-y-requires : goal.fits_part-part_of-y-requires
fits_part-part_of-y-requires t c = let q = c.requires in (q.0.tables.table, q.0.whole, q.2, q.3)

pub fits_part-part_of-z-requires : goal.fits_part-part_of-z-requires
fits_part-part_of-z-requires t c = let q = c.requires in (q.0.tables.table, q.0.body, q.2, q.3)

pub fits_part-fits_at-requires : goal.fits_part-fits_at-requires
fits_part-fits_at-requires t c =
    let q = c.requires in let f = c.part_of-z.ensures.falls q.1 in (omega (arith, c.decreases, f), asking_part _ _ _ _ _ _ _ _ _ q.0 q.0.facts _ _ _ _ _ q.1 c.part_depth-e.ensures.1 c.part_of-y.ensures c.part_of-z.ensures)

pub fits_part-returns : goal.fits_part-returns
fits_part-returns t c =
    let e = c.fits_at.ensures in (fits_part_is _ _ _ _ _ _ _ _ _ _ _ c.part_depth-e.ensures.0 c.part_of-y.ensures c.part_of-z.ensures e.0, e.1)

pub others_fit-fits_part-requires : goal.others_fit-fits_part-requires
others_fit-fits_part-requires t c =
    let u = c.first_other-u.ensures in (omega (arith, c.decreases), (c.requires.0, c.requires.1, u.1, u.2))

pub others_fit-returns-then-not-fits_part : goal.others_fit-returns-then-not-fits_part
others_fit-returns-then-not-fits_part t c =
    let e = c.fits_part.ensures in (others_first _ _ _ _ _ _ _ _ c.first_other-u.ensures.0 c.second_other-v.ensures.0 _ e.0 (ap not c.if-not-fits_part.true), e.1)

pub others_fit-fits_part-requires-2 : goal.others_fit-fits_part-requires-2
others_fit-fits_part-requires-2 t c =
    let v = c.second_other-v.ensures in (omega (arith, c.decreases), (asking_after _ _ _ _ _ _ _ _ _ c.requires.0 c.fits_part.ensures.1, c.requires.1, v.1, v.2))

pub others_fit-returns : goal.others_fit-returns
others_fit-returns t c =
    let e = c.fits_part-2.ensures in (others_second _ _ _ _ _ _ _ _ c.first_other-u.ensures.0 c.second_other-v.ensures.0 _ c.fits_part.ensures.0 (ap not c.if-not-fits_part.false) _ e.0, e.1)
