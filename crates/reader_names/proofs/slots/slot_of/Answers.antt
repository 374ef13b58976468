use native.Mathlib.Omega.{arith}
use mathlib.Core.Path.{refl}
use Rattle.reader_equality.specs.Keys.{bucket_small, keys_equal, keys_differ}
use Rattle.reader_slots.specs.Slots.{search_from, search_found, search_end, search_more, turn_below, turn_in, turn_rises}
use Rattle.reader_names.specs.NameKeys.{parts_equal, parts_differ}
use Rattle.reader_names.proofs.slots.slot_of.Goals as goal

pub record_in-j-requires : goal.record_in-j-requires
record_in-j-requires c = omega (arith, bucket_small _ _ c.bucket_of-slot.ensures)

pub loop-j-init : goal.loop-j-init
loop-j-init c = (omega (arith, bucket_small _ _ c.bucket_of-slot.ensures), c.record_in-j.ensures, search search_from)

pub returns-then-has_parts : goal.returns-then-has_parts
returns-then-has_parts c =
    let l = c.loop-j.invariant in search_found _ _ _ _ _ _ l.1 l.2 _ l.0
    (parts_equal _ _ _ (keys_equal _ _ _ refl _ c.has_parts.ensures c.if-has_parts.true)) c.loop-j-test.true

pub slot_under-slot-requires : goal.slot_under-slot-requires
slot_under-slot-requires c =
    let p = c.requires in omega
    (arith, turn_below _ _ _ _ _ p.3 c.loop-j.invariant.1 c.loop-j-test.true)

pub record_in-j-requires-in-loop-j : goal.record_in-j-requires-in-loop-j
record_in-j-requires-in-loop-j c =
    let p = c.requires in omega (
      arith,
      turn_in _ _ _ _ _ p.3 c.loop-j.invariant.1 c.loop-j-test.true _ _ c.slot_under-slot.ensures,
    )

pub loop-j-smaller : goal.loop-j-smaller
loop-j-smaller c =
    let p = c.requires in let q = turn_rises _ _ _ _ _ p.3
    c.loop-j.invariant.1 c.loop-j-test.true _ _ c.slot_under-slot.ensures in
    omega (arith, q)

pub loop-j-preserved : goal.loop-j-preserved
loop-j-preserved c =
    let p = c.requires in let l =
    c.loop-j.invariant in (
      turn_in _ _ _ _ _ p.3 l.1 c.loop-j-test.true _ _ c.slot_under-slot.ensures,
      c.record_in-j-in-loop-j.ensures,
      search_more _ _ _ _ _ _ l.1 l.2 c.loop-j-test.true
          (parts_differ _ _ _ _ p.1 (keys_differ _ _ _ refl _ c.has_parts.ensures c.if-has_parts.false)) _ _
          c.turned-rest.ensures c.slot_under-slot.ensures,
    )

pub returns : goal.returns
returns c = search search_end
