use native.Mathlib.Omega.{arith}
use Rattle.reader.specs.TestLaws.{both_stop, both_go}
use Rattle.proof_replacement.specs.Fits.{open_positive, open_parts, fits_falls}
use Rattle.proof_places.specs.Places.{places_none, place_index, places_more, bears_deeper, bears_child_lem}
use Rattle.proof_replacement.specs.Remembered.{nothing_more}
use Rattle.proof_places.specs.Borne.{borne_is, borne_more}
use Rattle.std.proofs.Common.{ap, not}
use Rattle.proof_places.proofs.+bears_at_bears_child_bears_open.Goals as goal

pub bears_at-returns-then-r-d : goal.bears_at-returns-then-r-d
bears_at-returns-then-r-d t c = (places_none _ _ _ _ _ c.reach_of-r.ensures c.if-r-d.true, c.requires.3)

pub bears_at-bears_open-requires : goal.bears_at-bears_open-requires
bears_at-bears_open-requires t c =
    (omega arith, (open_positive _ _ _ _ c.reach_of-r.ensures c.if-r-d.false, c.requires.0, c.requires.1, c.requires.2, c.requires.3))

pub bears_at-returns-then-r-d-2 : goal.bears_at-returns-then-r-d-2
bears_at-returns-then-r-d-2 t c = c.bears_open.ensures

pub bears_at-returns-then-entry_at-ne0 : goal.bears_at-returns-then-entry_at-ne0
bears_at-returns-then-entry_at-ne0 t c =
    let p = c.requires.3 in (borne_is _ _ _ _ c.reach_of-r.ensures c.if-r-d-2.false _ _ _ p c.entry_at.ensures c.if-entry_at-ne0.true, p)

pub bears_at-bears_open-requires-2 : goal.bears_at-bears_open-requires-2
bears_at-bears_open-requires-2 t c =
    (omega arith, (open_positive _ _ _ _ c.reach_of-r.ensures c.if-r-d.false, c.requires.0, c.requires.1, c.requires.2, c.requires.3))

pub bears_at-returns-then-not-bears_open : goal.bears_at-returns-then-not-bears_open
bears_at-returns-then-not-bears_open t c = nothing_more _ _ _ c.bears_open-2.ensures (ap not c.if-not-bears_open.true)

pub bears_at-returns : goal.bears_at-returns
bears_at-returns t c =
    borne_more _ _ _ _ c.reach_of-r.ensures c.if-r-d-2.false _ _ _ _ _ c.bears_open-2.ensures (ap not c.if-not-bears_open.false) c.store.ensures

pub bears_child-bears_at-requires : goal.bears_child-bears_at-requires
bears_child-bears_at-requires t c =
    let f = fits_falls _ _ _ _ _ t c.decreases c.requires.0 c.requires.1 c.child_at-x.ensures in (f.0, (f.1, c.requires.2, c.requires.3, c.requires.4))

pub bears_child-returns : goal.bears_child-returns
bears_child-returns t c = let f = c.bears_at.ensures in (bears_child_lem _ _ _ _ _ _ _ c.child_at-x.ensures f.0, f.1)

pub bears_open-returns-then-is_index : goal.bears_open-returns-then-is_index
bears_open-returns-then-is_index t c = (search place_index, c.requires.4)

pub bears_open-bears_child-requires : goal.bears_open-bears_child-requires
bears_open-bears_child-requires t c =
    let o = open_parts _ _ _ t c.decreases c.requires.0 c.requires.1 (omega arith) in (o.0, (o.1, o.2, c.requires.2, c.requires.3, c.requires.4))

pub bears_open-returns-then-not-bears_child : goal.bears_open-returns-then-not-bears_child
bears_open-returns-then-not-bears_child t c =
    (places_more _ _ _ _ c.requires.0 _ c.is_index.ensures c.if-is_index.false _ (both_stop _ _ _ c.bears_child.ensures.0 (ap not c.if-not-bears_child.true)), c.bears_child.ensures.1)

pub bears_open-deeper_at-e-requires : goal.bears_open-deeper_at-e-requires
bears_open-deeper_at-e-requires t c = omega (arith, c.requires.0, c.requires.1)

pub bears_open-bears_child-requires-2 : goal.bears_open-bears_child-requires-2
bears_open-bears_child-requires-2 t c =
    let o = open_parts _ _ _ t c.decreases c.requires.0 c.requires.1 c.deeper_at-e.ensures.1 in (o.0, (o.1, o.2, c.requires.2, c.requires.3, c.bears_child.ensures.1))

pub bears_open-returns-then-not-bears_child-2 : goal.bears_open-returns-then-not-bears_child-2
bears_open-returns-then-not-bears_child-2 t c =
    (places_more _ _ _ _ c.requires.0 _ c.is_index.ensures c.if-is_index.false _ (both_go _ _ _ _ c.bears_child.ensures.0 (ap not c.if-not-bears_child.false) (both_stop _ _ _ (bears_deeper _ _ _ _ _ _ _ c.deeper_at-e.ensures.0 c.bears_child-2.ensures.0) (ap not c.if-not-bears_child-2.true))), c.bears_child-2.ensures.1)

pub bears_open-bears_child-requires-3 : goal.bears_open-bears_child-requires-3
bears_open-bears_child-requires-3 t c =
    let o = open_parts _ _ _ t c.decreases c.requires.0 c.requires.1 (omega arith) in (o.0, (o.1, o.2, c.requires.2, c.requires.3, c.bears_child-2.ensures.1))

pub bears_open-returns : goal.bears_open-returns
bears_open-returns t c =
    (places_more _ _ _ _ c.requires.0 _ c.is_index.ensures c.if-is_index.false _ (both_go _ _ _ _ c.bears_child.ensures.0 (ap not c.if-not-bears_child.false) (both_go _ _ _ _ (bears_deeper _ _ _ _ _ _ _ c.deeper_at-e.ensures.0 c.bears_child-2.ensures.0) (ap not c.if-not-bears_child-2.false) c.bears_child-3.ensures.0)), c.bears_child-3.ensures.1)
