use native.Mathlib.Omega.{arith}
use Rattle.derivation_known.specs.Bits.{one_shifted}
use Rattle.derivation_known.specs.Held.{puts}
use Rattle.derivation_known.proofs.set.put.Goals as goal

pub returns : goal.returns
returns c = rw c.store.ensures (puts _ _ _ _ c.entry_at-word.ensures (one_shifted _ (omega arith)))
