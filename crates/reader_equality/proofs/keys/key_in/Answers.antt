use Rattle.std.proofs.Common.{arith}
use Rattle.reader_equality.specs.Shapes.{first_in_table, second_in_table, third_in_table, key_is}
use Rattle.reader_equality.proofs.keys.key_in.Goals as goal

pub offset_bounds-table-parts : goal.offset_bounds-table-parts
offset_bounds-table-parts c = let p = c.requires in omega (arith, first_in_table _ _ _ _ _ c.parts_by-parts.ensures p.1 p.2)

pub bounds-table-parts : goal.bounds-table-parts
bounds-table-parts c = search first_in_table

pub offset_bounds-table-parts-2 : goal.offset_bounds-table-parts-2
offset_bounds-table-parts-2 c = let p = c.requires in omega (arith, second_in_table _ _ _ _ _ c.parts_by-parts.ensures p.1 p.2)

pub bounds-table-parts-2 : goal.bounds-table-parts-2
bounds-table-parts-2 c = search second_in_table

pub offset_bounds-table-parts-3 : goal.offset_bounds-table-parts-3
offset_bounds-table-parts-3 c = let p = c.requires in omega (arith, third_in_table _ _ _ _ _ c.parts_by-parts.ensures p.1 p.2)

pub bounds-table-parts-3 : goal.bounds-table-parts-3
bounds-table-parts-3 c = search third_in_table

pub returns : goal.returns
returns c = search key_is
