use native.Mathlib.Omega.{arith}
use Rattle.proof_replacement.specs.Fits.{deeper_binder, deeper_other}
use Rattle.proof_replacement.proofs.deeper_at.Goals as goal

pub returns-then-word_at : goal.returns-then-word_at
returns-then-word_at c = (search deeper_binder, omega arith)

pub returns-else-word_at : goal.returns-else-word_at
returns-else-word_at c = (search deeper_other, omega arith)
