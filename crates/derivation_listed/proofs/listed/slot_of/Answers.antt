use native.Mathlib.Omega.{arith}
use mathlib.Core.Path.{refl}
use Rattle.reader_equality.specs.Keys.{bucket_small}
use Rattle.reader_slots.specs.Slots.{search_from, search_found, search_end, search_more, turn_below, turn_in, turn_rises}
use Rattle.derivation_listed.specs.Listed.{same_listed, other_listed}
use Rattle.derivation_listed.proofs.listed.slot_of.Goals as goal

pub record_in-j-requires : goal.record_in-j-requires
record_in-j-requires c = omega (arith, bucket_small _ _ c.bucket_of-slot.ensures)

pub loop-j-init : goal.loop-j-init
loop-j-init c = (omega (arith, bucket_small _ _ c.bucket_of-slot.ensures), c.record_in-j.ensures, search search_from)

pub bounds-listed-j : goal.bounds-listed-j
bounds-listed-j c = let p = c.requires in omega (arith, p.0, turn_below _ _ _ _ _ p.2 c.loop-j.invariant.1 c.loop-j-test.true)

pub returns-then-listed-j : goal.returns-then-listed-j
returns-then-listed-j c =
    let l = c.loop-j.invariant in search_found _ _ _ _ _ _ l.1 l.2 _ l.0
    (same_listed _ _ _ _ refl c.if-listed-j.true) c.loop-j-test.true

pub slot_under-slot-requires : goal.slot_under-slot-requires
slot_under-slot-requires c =
    let p = c.requires in omega
    (arith, turn_below _ _ _ _ _ p.2 c.loop-j.invariant.1 c.loop-j-test.true)

pub record_in-j-requires-in-loop-j : goal.record_in-j-requires-in-loop-j
record_in-j-requires-in-loop-j c =
    let p = c.requires in omega (
      arith,
      turn_in _ _ _ _ _ p.2 c.loop-j.invariant.1 c.loop-j-test.true _ _ c.slot_under-slot.ensures,
    )

pub loop-j-smaller : goal.loop-j-smaller
loop-j-smaller c =
    let p = c.requires in let q = turn_rises _ _ _ _ _ p.2
    c.loop-j.invariant.1 c.loop-j-test.true _ _ c.slot_under-slot.ensures in
    omega (arith, q)

pub loop-j-preserved : goal.loop-j-preserved
loop-j-preserved c =
    let p = c.requires in let l = c.loop-j.invariant
    in (
      turn_in _ _ _ _ _ p.2 l.1 c.loop-j-test.true _ _ c.slot_under-slot.ensures,
      c.record_in-j-in-loop-j.ensures,
      search_more _ _ _ _ _ _ l.1 l.2 c.loop-j-test.true
          (other_listed _ _ _ _ refl c.if-listed-j.false) _ _ c.turned-rest.ensures c.slot_under-slot.ensures,
    )

pub returns : goal.returns
returns c = search search_end
