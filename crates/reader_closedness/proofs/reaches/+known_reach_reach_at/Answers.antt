use native.Mathlib.Omega.{arith}
use lib.Dec.{lit<}
use Rattle.reader_closedness.specs.Reaches.{reach_known, reach_none, reach_node, reach_part, part_falls}
use Rattle.reader_closedness.proofs.reaches.+known_reach_reach_at.Goals as goal

pub known_reach-returns-then-a-n : goal.known_reach-returns-then-a-n
known_reach-returns-then-a-n t c = search reach_known

pub known_reach-reach_at-requires : goal.known_reach-reach_at-requires
known_reach-reach_at-requires t c = (omega arith, (c.requires.0, c.requires.1))

pub known_reach-returns : goal.known_reach-returns
known_reach-returns t c = c.reach_at.ensures

pub reach_at-returns-then-i-n : goal.reach_at-returns-then-i-n
reach_at-returns-then-i-n t c = search reach_known

pub reach_at-returns-then-i-eq0 : goal.reach_at-returns-then-i-eq0
reach_at-returns-then-i-eq0 t c = search reach_none

pub reach_at-known_reach-x-requires : goal.reach_at-known_reach-x-requires
reach_at-known_reach-x-requires t c = (
  part_falls _ _ _
      c.record_at-v.ensures 1 (lit< tt) _ c.part_of-a.ensures t c.decreases c.if-i-eq0.false,
  (c.requires.0, c.requires.1),
)

pub reach_at-known_reach-y-requires : goal.reach_at-known_reach-y-requires
reach_at-known_reach-y-requires t c = (
  part_falls _ _ _
      c.record_at-v.ensures 2 (lit< tt) _ c.part_of-b.ensures t c.decreases c.if-i-eq0.false,
  (c.requires.0, c.requires.1),
)

pub reach_at-known_reach-z-requires : goal.reach_at-known_reach-z-requires
reach_at-known_reach-z-requires t c = (
  part_falls _ _ _
      c.record_at-v.ensures 3 (lit< tt) _ c.part_of-c.ensures t c.decreases c.if-i-eq0.false,
  (c.requires.0, c.requires.1),
)

pub reach_at-returns : goal.reach_at-returns
reach_at-returns t c =
    reach_node _ _ _ _ _ _ _ _ _ _ _ _ c.if-i-eq0.false
    c.record_at-v.ensures.kind_is
    c.own_reach-own.ensures (reach_part _ _ _
    c.record_at-v.ensures 1 (lit< tt) _
    c.part_of-a.ensures _ _
    c.known_reach-x.ensures) (reach_part _ _ _
    c.record_at-v.ensures 2 (lit< tt) _
    c.part_of-b.ensures _ _ c.known_reach-y.ensures)
    (reach_part _ _ _ c.record_at-v.ensures 3 (lit< tt) _
    c.part_of-c.ensures _ _ c.known_reach-z.ensures)
    c.under.ensures c.larger.ensures c.larger-2.ensures c.larger-3.ensures
