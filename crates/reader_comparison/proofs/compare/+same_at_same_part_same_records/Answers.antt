use native.Mathlib.Omega.{arith}
use lib.Dec.{lit<}
use Rattle.reader.specs.TestLaws.{both_stop, both_go}
use Rattle.reader_comparison.specs.Compare.{entries_in, from_one, from_known, from_first_none, from_second_none, from_parts}
use Rattle.reader_comparison.specs.Compare.{records_kinds, records_atoms, records_parts, part_same, part_falls}
use Rattle.std.proofs.Common.{ap, not}
use Rattle.reader_comparison.proofs.compare.+same_at_same_part_same_records.Goals as goal

pub same_at-returns-then-i-j : goal.same_at-returns-then-i-j
same_at-returns-then-i-j t c = search from_one

pub same_at-offset_bounds-table-i : goal.same_at-offset_bounds-table-i
same_at-offset_bounds-table-i t c = omega (arith, entries_in _ _ _ _ _ c.has_both.ensures c.if-has_both.true c.requires)

pub same_at-bounds-table-i : goal.same_at-bounds-table-i
same_at-bounds-table-i t c = (entries_in _ _ _ _ _ c.has_both.ensures c.if-has_both.true c.requires).0

pub same_at-offset_bounds-table-j : goal.same_at-offset_bounds-table-j
same_at-offset_bounds-table-j t c = omega (arith, entries_in _ _ _ _ _ c.has_both.ensures c.if-has_both.true c.requires)

pub same_at-bounds-table-j : goal.same_at-bounds-table-j
same_at-bounds-table-j t c = (entries_in _ _ _ _ _ c.has_both.ensures c.if-has_both.true c.requires).1

pub same_at-returns-then-has_both : goal.same_at-returns-then-has_both
same_at-returns-then-has_both t c = search from_known

pub same_at-returns-then-i-eq0 : goal.same_at-returns-then-i-eq0
same_at-returns-then-i-eq0 t c = search from_first_none

pub same_at-returns-then-j-eq0 : goal.same_at-returns-then-j-eq0
same_at-returns-then-j-eq0 t c = search from_second_none

pub same_at-same_records-requires : goal.same_at-same_records-requires
same_at-same_records-requires t c = (omega arith, (omega arith, c.requires))

pub same_at-returns : goal.same_at-returns
same_at-returns t c =
    from_parts _ _ _ _ _ c.if-i-j.false _ c.has_both.ensures
    c.if-has_both.false c.if-i-eq0.false c.if-j-eq0.false _ c.same_records.ensures

pub same_part-returns-then-a-b : goal.same_part-returns-then-a-b
same_part-returns-then-a-b t c = search from_one

pub same_part-same_at-requires : goal.same_part-same_at-requires
same_part-same_at-requires t c = (omega arith, c.requires)

pub same_part-returns : goal.same_part-returns
same_part-returns t c = c.same_at.ensures

pub same_records-returns-then-x-y : goal.same_records-returns-then-x-y
same_records-returns-then-x-y t c = search records_kinds

pub same_records-returns-then-atom_of : goal.same_records-returns-then-atom_of
same_records-returns-then-atom_of t c = search records_atoms

pub same_records-same_part-requires : goal.same_records-same_part-requires
same_records-same_part-requires t c = (part_falls _ _ _ _ t c.decreases c.requires.0 c.part_of-a.ensures, c.requires.1)

pub same_records-returns-then-not-same_part : goal.same_records-returns-then-not-same_part
same_records-returns-then-not-same_part t c =
    records_parts _ _ _ _ _ _ _ c.record_at-x.ensures
    c.record_at-y.ensures
    c.if-x-y.false _ _ c.atom_of.ensures
    c.atom_of-2.ensures c.if-atom_of.false _ (both_stop _ _ _ (part_same _ _ _ _ _ _ _
    c.record_at-x.ensures
    c.record_at-y.ensures 1 (lit< tt) _ _ c.part_of-a.ensures
    c.part_of-b.ensures _ c.same_part.ensures) (ap not c.if-not-same_part.true))

pub same_records-same_part-requires-2 : goal.same_records-same_part-requires-2
same_records-same_part-requires-2 t c = (part_falls _ _ _ _ t c.decreases c.requires.0 c.part_of-c.ensures, c.requires.1)

pub same_records-returns-then-not-same_part-2 : goal.same_records-returns-then-not-same_part-2
same_records-returns-then-not-same_part-2 t c =
    records_parts _ _ _ _ _ _ _
    c.record_at-x.ensures
    c.record_at-y.ensures
    c.if-x-y.false _ _
    c.atom_of.ensures
    c.atom_of-2.ensures
    c.if-atom_of.false _ (both_go _ _ _ _ (part_same _ _ _ _ _ _ _
    c.record_at-x.ensures
    c.record_at-y.ensures 1 (lit< tt) _ _
    c.part_of-a.ensures c.part_of-b.ensures _
    c.same_part.ensures) (ap not c.if-not-same_part.false) (both_stop _ _ _ (part_same _ _ _ _ _ _ _
    c.record_at-x.ensures
    c.record_at-y.ensures 2 (lit< tt) _ _
    c.part_of-c.ensures c.part_of-d.ensures _ c.same_part-2.ensures) (ap not c.if-not-same_part-2.true)))

pub same_records-same_part-requires-3 : goal.same_records-same_part-requires-3
same_records-same_part-requires-3 t c = (part_falls _ _ _ _ t c.decreases c.requires.0 c.part_of-e.ensures, c.requires.1)

pub same_records-returns : goal.same_records-returns
same_records-returns t c =
    records_parts _ _ _ _ _ _ _
    c.record_at-x.ensures
    c.record_at-y.ensures
    c.if-x-y.false _ _
    c.atom_of.ensures
    c.atom_of-2.ensures
    c.if-atom_of.false _ (both_go _ _ _ _ (part_same _ _ _ _ _ _ _
    c.record_at-x.ensures
    c.record_at-y.ensures 1
    (lit< tt) _ _ c.part_of-a.ensures
    c.part_of-b.ensures _
    c.same_part.ensures) (ap not c.if-not-same_part.false)
    (both_go _ _ _ _ (part_same _ _ _ _ _ _ _
    c.record_at-x.ensures
    c.record_at-y.ensures 2
    (lit< tt) _ _ c.part_of-c.ensures c.part_of-d.ensures _
    c.same_part-2.ensures) (ap not c.if-not-same_part-2.false) (part_same _ _ _ _ _ _ _
    c.record_at-x.ensures
    c.record_at-y.ensures 3
    (lit< tt) _ _ c.part_of-e.ensures c.part_of-f.ensures _ c.same_part-3.ensures)))
