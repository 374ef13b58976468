use borrow.Author.Rules.{rules}
use native.Mathlib.Omega.{arith}
use lib.ListN.{length-set}
use Rattle.reader_closedness.specs.Filled.{parts_below, reach_made, reached_both, reached_zero}
use Rattle.reader_closedness.proofs.fill.reach_record.Goals as goal

pub bounds-reaches-1 : goal.bounds-reaches-1
bounds-reaches-1 c = let a = c.args in omega (arith, c.requires.0, c.if-i-eq0.true, length-set a.reaches.now 0 0)

pub returns-then-i-eq0 : goal.returns-then-i-eq0
returns-then-i-eq0 c = search reached_zero

pub reach_in-indices-requires : goal.reach_in-indices-requires
reach_in-indices-requires c = search (rules, parts_below)

pub reach_in-types-requires : goal.reach_in-types-requires
reach_in-types-requires c = search (rules, parts_below)

pub returns : goal.returns
returns c = search (reached_both, reach_made)
