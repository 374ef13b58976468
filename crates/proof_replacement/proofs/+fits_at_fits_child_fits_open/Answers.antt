use native.Mathlib.Omega.{arith}
use Rattle.reader.specs.TestLaws.{both_stop, both_go, boths}
use Rattle.proof_replacement.specs.Fits.{open_positive, open_parts, fits_closed, fits_index, fits_missing, fits_more, fits_deeper, fits_child_lem, fits_falls}
use Rattle.proof_replacement.specs.Remembered.{nothing_more, remembered_is, remembered_more}
use Rattle.std.proofs.Common.{ap, not}
use Rattle.proof_replacement.proofs.+fits_at_fits_child_fits_open.Goals as goal

pub fits_at-returns-then-reach-d : goal.fits_at-returns-then-reach-d
fits_at-returns-then-reach-d t c =
    (fits_closed _ _ _ _ _ _ c.reach_of-reach.ensures c.if-reach-d.true _ c.same_at.ensures, c.requires.3)

pub fits_at-fits_open-requires : goal.fits_at-fits_open-requires
fits_at-fits_open-requires t c =
    (omega arith, (open_positive _ _ _ _ c.reach_of-reach.ensures c.if-reach-d.false, c.requires.0, c.requires.1, c.requires.2, c.requires.3))

pub fits_at-returns-then-reach-d-2 : goal.fits_at-returns-then-reach-d-2
fits_at-returns-then-reach-d-2 t c = c.fits_open.ensures

pub fits_at-returns-then-x-ne0 : goal.fits_at-returns-then-x-ne0
fits_at-returns-then-x-ne0 t c =
    let p = c.requires.3 in (remembered_is _ _ _ _ c.reach_of-reach.ensures c.if-reach-d-2.false _ _ _ _ _ p c.entry_at-x.ensures c.if-x-ne0.true c.same_at-then-x-ne0.ensures, p)

pub fits_at-fits_open-requires-2 : goal.fits_at-fits_open-requires-2
fits_at-fits_open-requires-2 t c =
    (omega arith, (open_positive _ _ _ _ c.reach_of-reach.ensures c.if-reach-d.false, c.requires.0, c.requires.1, c.requires.2, c.requires.3))

pub fits_at-returns-then-not-fits_open : goal.fits_at-returns-then-not-fits_open
fits_at-returns-then-not-fits_open t c = nothing_more _ _ _ c.fits_open-2.ensures (ap not c.if-not-fits_open.true)

pub fits_at-returns : goal.fits_at-returns
fits_at-returns t c =
    remembered_more _ _ _ _ c.reach_of-reach.ensures c.if-reach-d-2.false _ _ _ _ _ c.fits_open-2.ensures (ap not c.if-not-fits_open.false) c.store.ensures

pub fits_child-fits_at-requires : goal.fits_child-fits_at-requires
fits_child-fits_at-requires t c =
    let f = fits_falls _ _ _ _ _ t c.decreases c.requires.0 c.requires.1 c.child_at-y.ensures in (f.0, (f.1, c.requires.2, c.requires.3, c.requires.4))

pub fits_child-returns : goal.fits_child-returns
fits_child-returns t c =
    let f = c.fits_at.ensures in (fits_child_lem _ _ _ _ _ _ _ _ _ c.child_at-x.ensures c.child_at-y.ensures f.0, f.1)

pub fits_open-returns-then-is_index : goal.fits_open-returns-then-is_index
fits_open-returns-then-is_index t c = (search fits_index, c.requires.4)

pub fits_open-returns-then-i-eq0 : goal.fits_open-returns-then-i-eq0
fits_open-returns-then-i-eq0 t c = (search fits_missing, c.requires.4)

pub fits_open-returns-then-not-same_head : goal.fits_open-returns-then-not-same_head
fits_open-returns-then-not-same_head t c = (search (fits_more, boths), c.requires.4)

pub fits_open-fits_child-requires : goal.fits_open-fits_child-requires
fits_open-fits_child-requires t c =
    let o = open_parts _ _ _ t c.decreases c.requires.0 c.requires.1 (omega arith) in (o.0, (o.1, o.2, c.requires.2, c.requires.3, c.requires.4))

pub fits_open-returns-then-not-fits_child : goal.fits_open-returns-then-not-fits_child
fits_open-returns-then-not-fits_child t c =
    (fits_more _ _ _ _ _ c.requires.0 _ c.is_index.ensures c.if-is_index.false c.if-i-eq0.false _ (both_go _ _ _ _ c.same_head.ensures (ap not c.if-not-same_head.false) (both_stop _ _ _ c.fits_child.ensures.0 (ap not c.if-not-fits_child.true))), c.fits_child.ensures.1)

pub fits_open-deeper_at-e-requires : goal.fits_open-deeper_at-e-requires
fits_open-deeper_at-e-requires t c = omega (arith, c.requires.0, c.requires.1)

pub fits_open-fits_child-requires-2 : goal.fits_open-fits_child-requires-2
fits_open-fits_child-requires-2 t c =
    let o = open_parts _ _ _ t c.decreases c.requires.0 c.requires.1 c.deeper_at-e.ensures.1 in (o.0, (o.1, o.2, c.requires.2, c.requires.3, c.fits_child.ensures.1))

pub fits_open-returns-then-not-fits_child-2 : goal.fits_open-returns-then-not-fits_child-2
fits_open-returns-then-not-fits_child-2 t c =
    (fits_more _ _ _ _ _ c.requires.0 _ c.is_index.ensures c.if-is_index.false c.if-i-eq0.false _ (both_go _ _ _ _ c.same_head.ensures (ap not c.if-not-same_head.false) (both_go _ _ _ _ c.fits_child.ensures.0 (ap not c.if-not-fits_child.false) (both_stop _ _ _ (fits_deeper _ _ _ _ _ _ _ _ c.deeper_at-e.ensures.0 c.fits_child-2.ensures.0) (ap not c.if-not-fits_child-2.true)))), c.fits_child-2.ensures.1)

pub fits_open-fits_child-requires-3 : goal.fits_open-fits_child-requires-3
fits_open-fits_child-requires-3 t c =
    let o = open_parts _ _ _ t c.decreases c.requires.0 c.requires.1 (omega arith) in (o.0, (o.1, o.2, c.requires.2, c.requires.3, c.fits_child-2.ensures.1))

pub fits_open-returns : goal.fits_open-returns
fits_open-returns t c =
    (fits_more _ _ _ _ _ c.requires.0 _ c.is_index.ensures c.if-is_index.false c.if-i-eq0.false _ (both_go _ _ _ _ c.same_head.ensures (ap not c.if-not-same_head.false) (both_go _ _ _ _ c.fits_child.ensures.0 (ap not c.if-not-fits_child.false) (both_go _ _ _ _ (fits_deeper _ _ _ _ _ _ _ _ c.deeper_at-e.ensures.0 c.fits_child-2.ensures.0) (ap not c.if-not-fits_child-2.false) c.fits_child-3.ensures.0))), c.fits_child-3.ensures.1)
