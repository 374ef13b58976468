use native.Mathlib.Omega.{arith}
use Rattle.reader_equality.specs.Keys.{key_in_lem, bucket_small, keys_equal, keys_differ}
use Rattle.reader_slots.specs.Slots.{search_start, search_found, search_end, search_more, turn_below, turn_in, turn_rises}
use Rattle.reader_slots.proofs.slots.slot_of.Goals as goal

pub record_in-j-requires : goal.record_in-j-requires
record_in-j-requires c = omega (arith, bucket_small _ _ c.bucket_of-slot.ensures)

pub loop-j-init : goal.loop-j-init
loop-j-init c = (omega (arith, bucket_small _ _ c.bucket_of-slot.ensures), c.record_in-j.ensures, search search_start)

pub has_key-requires : goal.has_key-requires
has_key-requires c =
    let p = c.requires in let low = turn_below _ _ _ _ _ p.3 c.loop-j.invariant.1 c.loop-j-test.true in (p.0, omega arith, omega (arith, low, p.1))

pub returns-then-has_key : goal.returns-then-has_key
returns-then-has_key c =
    let l = c.loop-j.invariant in search_found _ _ _ _ _ _ l.1 l.2 _ l.0
    (keys_equal _ _ _ (key_in_lem _ _ _ _ _ c.record_at-x.ensures) _ c.has_key.ensures c.if-has_key.true) c.loop-j-test.true

pub slot_under-slot-requires : goal.slot_under-slot-requires
slot_under-slot-requires c = let p = c.requires in omega (arith, turn_below _ _ _ _ _ p.3 c.loop-j.invariant.1 c.loop-j-test.true)

pub record_in-j-requires-in-loop-j : goal.record_in-j-requires-in-loop-j
record_in-j-requires-in-loop-j c =
    let p = c.requires in omega (arith, turn_in _ _ _ _ _ p.3 c.loop-j.invariant.1 c.loop-j-test.true _ _ c.slot_under-slot.ensures)

pub loop-j-smaller : goal.loop-j-smaller
loop-j-smaller c =
    let p = c.requires in let q = turn_rises _ _ _ _ _ p.3 c.loop-j.invariant.1 c.loop-j-test.true _ _ c.slot_under-slot.ensures in omega (arith, q)

pub loop-j-preserved : goal.loop-j-preserved
loop-j-preserved c =
    let p = c.requires in let l = c.loop-j.invariant in let some = c.loop-j-test.true in (
      turn_in _ _ _ _ _ p.3 l.1 some _ _ c.slot_under-slot.ensures,
      c.record_in-j-in-loop-j.ensures,
      search_more _ _ _ _ _ _ l.1 l.2 some
          (keys_differ _ _ _ (key_in_lem _ _ _ _ _ c.record_at-x.ensures) _ c.has_key.ensures c.if-has_key.false) _ _ c.turned-rest.ensures c.slot_under-slot.ensures,
    )

pub returns : goal.returns
returns c = search search_end
