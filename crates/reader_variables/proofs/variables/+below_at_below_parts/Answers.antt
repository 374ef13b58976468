use native.Mathlib.Omega.{arith}
use Rattle.reader.specs.TestLaws.{boths}
use Rattle.reader_variables.specs.Variables.{below_parts, below_none, below_more, below_part, below_deeper}
use Rattle.reader_chains.specs.Parts.{part_falls_below}
use Rattle.reader_variables.proofs.variables.+below_at_below_parts.Goals as goal

pub below_at-returns-then-i-eq0 : goal.below_at-returns-then-i-eq0
unfolding below_parts
below_at-returns-then-i-eq0 t c = search below_none

pub below_at-returns-then-not-index_below : goal.below_at-returns-then-not-index_below
unfolding below_parts
below_at-returns-then-not-index_below t c = search (below_more, boths)

pub below_at-below_parts-requires : goal.below_at-below_parts-requires
unfolding below_parts
below_at-below_parts-requires t c = omega arith

pub below_at-returns : goal.below_at-returns
unfolding below_parts
below_at-returns t c = search (below_more, boths)

pub below_parts-below_at-requires : goal.below_parts-below_at-requires
unfolding below_parts
below_parts-below_at-requires t c = part_falls_below _ _ _ _ _ _ _ t c.decreases c.requires c.part_at-x.ensures (omega arith)

pub below_parts-returns-then-not-below_at : goal.below_parts-returns-then-not-below_at
unfolding below_parts
below_parts-returns-then-not-below_at t c = search (boths, below_part)

pub below_parts-below_at-requires-2 : goal.below_parts-below_at-requires-2
unfolding below_parts
below_parts-below_at-requires-2 t c = part_falls_below _ _ _ _ _ _ _ t c.decreases c.requires c.part_at-y.ensures c.deeper.ensures.1

pub below_parts-returns-then-not-below_at-2 : goal.below_parts-returns-then-not-below_at-2
unfolding below_parts
below_parts-returns-then-not-below_at-2 t c = search (boths, below_part, below_deeper)

pub below_parts-below_at-requires-3 : goal.below_parts-below_at-requires-3
unfolding below_parts
below_parts-below_at-requires-3 t c = part_falls_below _ _ _ _ _ _ _ t c.decreases c.requires c.part_at-z.ensures (omega arith)

pub below_parts-returns : goal.below_parts-returns
unfolding below_parts
below_parts-returns t c = search (boths, below_part, below_deeper)
