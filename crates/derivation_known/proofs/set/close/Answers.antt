use native.Mathlib.Omega.{arith}
use Rattle.derivation_known.specs.Held.{closed_far, closed_later}
use Rattle.derivation_known.proofs.set.close.Goals as goal

pub loop-k-init : goal.loop-k-init
loop-k-init c = (c.requires, closed_far _ _ _ (omega arith))

pub close_word-requires : goal.close_word-requires
close_word-requires c = let l = c.loop-k in (omega arith, l.invariant.0, closed_later _ _ _ _ (omega arith) l.invariant.1)

pub returns : goal.returns
returns c = let l = c.loop-k in record { facts = l.invariant.0; closed = closed_later _ _ _ _ (omega arith) l.invariant.1 }
