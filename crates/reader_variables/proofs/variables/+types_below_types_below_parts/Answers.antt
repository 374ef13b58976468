use native.Mathlib.Omega.{arith}
use Rattle.reader.specs.TestLaws.{boths}
use Rattle.reader_variables.specs.Variables.{types_below_parts, types_none, types_more, types_part}
use Rattle.reader_chains.specs.Parts.{part_falls}
use Rattle.reader_variables.proofs.variables.+types_below_types_below_parts.Goals as goal

pub types_below-returns-then-i-eq0 : goal.types_below-returns-then-i-eq0
unfolding types_below_parts
types_below-returns-then-i-eq0 t c = search types_none

pub types_below-returns-then-not-type_variable_below : goal.types_below-returns-then-not-type_variable_below
unfolding types_below_parts
types_below-returns-then-not-type_variable_below t c = search (types_more, boths)

pub types_below-types_below_parts-requires : goal.types_below-types_below_parts-requires
unfolding types_below_parts
types_below-types_below_parts-requires t c = omega arith

pub types_below-returns : goal.types_below-returns
unfolding types_below_parts
types_below-returns t c = search (types_more, boths)

pub types_below_parts-types_below-requires : goal.types_below_parts-types_below-requires
unfolding types_below_parts
types_below_parts-types_below-requires t c = (part_falls _ _ _ _ _ t c.decreases c.requires c.part_at-x.ensures, tt)

pub types_below_parts-returns-then-not-types_below : goal.types_below_parts-returns-then-not-types_below
unfolding types_below_parts
types_below_parts-returns-then-not-types_below t c = search (boths, types_part)

pub types_below_parts-types_below-requires-2 : goal.types_below_parts-types_below-requires-2
unfolding types_below_parts
types_below_parts-types_below-requires-2 t c = (part_falls _ _ _ _ _ t c.decreases c.requires c.part_at-y.ensures, tt)

pub types_below_parts-returns-then-not-types_below-2 : goal.types_below_parts-returns-then-not-types_below-2
unfolding types_below_parts
types_below_parts-returns-then-not-types_below-2 t c = search (boths, types_part)

pub types_below_parts-types_below-requires-3 : goal.types_below_parts-types_below-requires-3
unfolding types_below_parts
types_below_parts-types_below-requires-3 t c = (part_falls _ _ _ _ _ t c.decreases c.requires c.part_at-z.ensures, tt)

pub types_below_parts-returns : goal.types_below_parts-returns
unfolding types_below_parts
types_below_parts-returns t c = search (boths, types_part)
