use native.Mathlib.Omega.{arith}
use Rattle.reader_closedness.specs.Reaches.{reached_end}
use Rattle.proof_replacement.proofs.reach_of.Goals as goal

pub reach_at-requires : goal.reach_at-requires
reach_at-requires c = (omega arith, reached_end _ _ _ _ (omega arith) c.requires)
