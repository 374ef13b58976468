use native.Mathlib.Omega.{arith}
use Rattle.proof_check.specs.Started.{start_stored, goal_in}
use Rattle.proof_check.proofs.start.store_start.Goals as goal

pub add_record-requires : goal.add_record-requires
add_record-requires c = (
  c.add_hypotheses-h.ensures.0,
  omega (arith, c.add_hypotheses-h.ensures.2),
  goal_in _ _ _ _
      c.requires c.word_at-goal.ensures,
)

pub overflow_add-result : goal.overflow_add-result
overflow_add-result c = omega (arith, c.add_hypotheses-h.ensures.2)

pub returns : goal.returns
returns c = (
  c.add_record.ensures.ready,
  start_stored _ _ _ _ _ _ c.word_at-goal.ensures
      c.add_hypotheses-h.ensures.1 c.add_record.ensures,
)
