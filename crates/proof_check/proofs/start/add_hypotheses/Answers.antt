use native.Mathlib.Omega.{arith}
use mathlib.Core.Path.{◌≡◌, sym, ◌∙◌}
use Rattle.proof_check.specs.Started.{left_all, left_room, left_item, left_next, left_none, left_full}
use Rattle.proof_check.proofs.start.add_hypotheses.Goals as goal

pub loop-h-init : goal.loop-h-init
loop-h-init c = search left_all

pub returns-then-l-eq0 : goal.returns-then-l-eq0
returns-then-l-eq0 c = left_none _ _ _ _ _ c.loop-h.invariant c.if-l-eq0.true

pub add_record-requires : goal.add_record-requires
add_record-requires c = (
  c.loop-h.invariant.ready,
  left_room _ _ _ _ _ c.loop-h.invariant c.if-l-eq0.false,
  left_item _ _ _ _ _ c.loop-h.invariant c.if-l-eq0.false _ c.lower_at-item.ensures,
)

pub loop-h-preserved : goal.loop-h-preserved
loop-h-preserved c = search left_next

pub shape_of-memory : goal.shape_of-memory
shape_of-memory c = c.loop-h.invariant.ready.long ∙ sym c.requires.long

pub returns : goal.returns
returns c =
    let full : c.loop-h.h ≡ 256 = omega (arith, c.loop-h.auto.h-end, c.loop-h-test.false) in left_full _ _ _ _ (rw full at c.loop-h.invariant)
