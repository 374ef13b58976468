use native.Mathlib.Omega.{arith}
use lib.ListN.{get_or-eq_default}
use Rattle.derivation_closedness.proofs.closed.known_order.Goals as goal

pub returns-then-reaches-i : goal.returns-then-reaches-i
returns-then-reaches-i c = let h = c.if-reaches-i.true in simp get_or-eq_default

pub overflow_cast-result : goal.overflow_cast-result
overflow_cast-result c = omega (arith, c.shared_slice_known-1.given c.args.i)
