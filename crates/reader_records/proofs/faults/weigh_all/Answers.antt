use native.Mathlib.Omega.{arith}
use Rattle.reader_weights.specs.Weights.{capped_small}
use Rattle.reader_records.specs.Tables.{weighed_none, weighed_more, weighed_end}
use Rattle.reader_records.proofs.faults.weigh_all.Goals as goal

pub loop-i-init : goal.loop-i-init
loop-i-init c = search weighed_none

pub overflow_cast-table : goal.overflow_cast-table
overflow_cast-table c = omega (arith, capped_small _ _ c.weigh-w.ensures)

pub loop-i-preserved : goal.loop-i-preserved
loop-i-preserved c = let l = c.loop-i in weighed_more _ _ l.table l.i _ (omega arith) l.invariant c.weigh-w.ensures

pub returns : goal.returns
returns c = weighed_end _ _ _ _ _ (omega arith) (omega arith) c.loop-i.invariant
