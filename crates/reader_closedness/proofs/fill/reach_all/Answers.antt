use Rattle.std.proofs.Common.{arith}
use Rattle.reader_closedness.specs.Reaches.{reached_none, reached_end}
use Rattle.reader_closedness.specs.Filled.{reached_last}
use Rattle.reader_closedness.proofs.fill.reach_all.Goals as goal

pub loop-i-init : goal.loop-i-init
loop-i-init c = reached_none _ _

pub loop-i-preserved : goal.loop-i-preserved
loop-i-preserved c = reached_end _ _ _ _ (omega arith) c.reach_record.ensures

pub reach_at-requires : goal.reach_at-requires
reach_at-requires c = (omega arith, reached_end _ _ _ _ (omega arith) c.loop-i.invariant)

pub returns-then-n-reaches : goal.returns-then-n-reaches
returns-then-n-reaches c =
    reached_last _ _ _ _ c.loop-i-test.false c.loop-i.auto.i-end c.loop-i.invariant _ (omega arith) (omega arith) c.reach_at.ensures

pub returns-else-n-reaches : goal.returns-else-n-reaches
returns-else-n-reaches c = reached_end _ _ _ _ (omega arith) c.loop-i.invariant
