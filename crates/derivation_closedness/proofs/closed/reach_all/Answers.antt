use native.Mathlib.Omega.{arith}
use Rattle.derivation_closedness.specs.Reaches.{indexed_as, filled_none, filled_more, filled_reached, filled_unmarked}
use Rattle.derivation_closedness.proofs.closed.reach_all.Goals as goal

pub loop-i-init : goal.loop-i-init
loop-i-init c = filled_none _ _

pub entry_of-requires : goal.entry_of-requires
entry_of-requires c = let l = c.loop-i in (omega arith, indexed_as _ _ _ l.auto.reaches c.requires, filled_reached _ _ _ _ (omega arith) l.invariant)

pub loop-i-preserved : goal.loop-i-preserved
loop-i-preserved c = let l = c.loop-i in filled_more _ l.reaches l.i _ (omega arith) l.invariant c.entry_of.ensures

pub returns : goal.returns
returns c = let l = c.loop-i in (filled_reached _ _ _ _ (omega arith) l.invariant, filled_unmarked _ _ _ (omega arith) l.invariant)
