use native.Mathlib.Omega.{arith}
use borrow.Author.Tests.{not-false}
use Rattle.derivation_paths.specs.Paths.{depth_room, heads_true, leaves_all, leaves_made, parts_inside}
use Rattle.std.proofs.Common.{ap, not}
use Rattle.derivation_paths.proofs.paths.stepped.Goals as goal

pub returns-then-not-is_record : goal.returns-then-not-is_record
returns-then-not-is_record c = search leaves_all

pub returns-then-not-is_record-2 : goal.returns-then-not-is_record-2
returns-then-not-is_record-2 c = search leaves_all

pub overflow_sub-i : goal.overflow_sub-i
overflow_sub-i c = omega (arith, c.is_record.ensures.low (not-false _ (ap not c.if-not-is_record.false)))

pub overflow_sub-h : goal.overflow_sub-h
overflow_sub-h c = omega (arith, c.is_record-2.ensures.low (not-false _ (ap not c.if-not-is_record-2.false)))

pub returns-then-not-heads_agree : goal.returns-then-not-heads_agree
returns-then-not-heads_agree c = search leaves_all

pub depth_under-e-requires : goal.depth_under-e-requires
depth_under-e-requires c =
    depth_room _ _ (omega (arith, c.is_record.ensures.low (not-false _ (ap not c.if-not-is_record.false)))) c.requires.3

pub part_left-w-requires : goal.part_left-w-requires
part_left-w-requires c =
    (c.requires.0, parts_inside _ _ _ _ _ c.requires.2 (c.is_record.ensures.low (not-false _ (ap not c.if-not-is_record.false))) (c.is_record.ensures.high (not-false _ (ap not c.if-not-is_record.false))) c.parts_in-a.ensures, parts_inside _ _ _ _ _ c.requires.1 (c.is_record-2.ensures.low (not-false _ (ap not c.if-not-is_record-2.false))) (c.is_record-2.ensures.high (not-false _ (ap not c.if-not-is_record-2.false))) c.parts_in-b.ensures)

pub left_at-requires : goal.left_at-requires
left_at-requires c =
    (parts_inside _ _ _ _ _ c.requires.2 (c.is_record.ensures.low (not-false _ (ap not c.if-not-is_record.false))) (c.is_record.ensures.high (not-false _ (ap not c.if-not-is_record.false))) c.parts_in-a.ensures, parts_inside _ _ _ _ _ c.requires.1 (c.is_record-2.ensures.low (not-false _ (ap not c.if-not-is_record-2.false))) (c.is_record-2.ensures.high (not-false _ (ap not c.if-not-is_record-2.false))) c.parts_in-b.ensures)

pub returns : goal.returns
returns c =
    let p = c.requires in leaves_made _ _ _ _ _ _ p.0 p.1 p.2 (c.is_record-2.ensures.low (not-false _ (ap not c.if-not-is_record-2.false))) (c.is_record-2.ensures.high (not-false _ (ap not c.if-not-is_record-2.false))) (c.is_record.ensures.low (not-false _ (ap not c.if-not-is_record.false))) (c.is_record.ensures.high (not-false _ (ap not c.if-not-is_record.false))) _ _ c.record_at-p.ensures c.record_at-q.ensures (heads_true _ _ _ _ _ c.heads_agree.ensures (not-false _ (ap not c.if-not-heads_agree.false))) _ _ c.parts_in-a.ensures c.parts_in-b.ensures _ c.depth_under-e.ensures _ _ c.part_left-w.ensures c.left_at.ensures
