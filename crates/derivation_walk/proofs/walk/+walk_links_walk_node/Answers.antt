use native.Mathlib.Omega.{arith}
use mathlib.Core.Path.{refl, ap, ◌∙◌}
use lib.ListN.{length}
use Rattle.std.proofs.lemmas.Result.{err_from_is_err_and}
use Rattle.reader.specs.RefusalLaws.{number_some}
use Rattle.derivation_walk.specs.Turns.{first_turn, turn_end, turn_entering, turn_falls, turn_kept, turn_stop, turn_at, turn_passed, turn_place}
use Rattle.derivation_walk.specs.Turns.{turn_less, next_none, next_some, entering_count, entered_stop, entered_following, entered_go, entered_kept, ready_same}
use Rattle.derivation_walk.proofs.walk.+walk_links_walk_node.Goals as goal

pub walk_links-loop-c-init : goal.walk_links-loop-c-init
walk_links-loop-c-init t c = (first_turn _ _ _ _ _ _ c.requires.0 _ c.lower_at-c.ensures, refl, c.requires.2, refl)

pub walk_links-overflow_add-d : goal.walk_links-overflow_add-d
walk_links-overflow_add-d t c = omega (arith, c.requires.0.here.framed.deep)

pub walk_links-walk_node-requires : goal.walk_links-walk_node-requires
walk_links-walk_node-requires t c =
    (turn_falls _ _ _ _ _ _ c.requires.0 _ _ _ _ c.loop-c.invariant.0 c.loop-c-test.true _ c.lower_at-x.ensures t c.decreases, (turn_entering _ _ _ _ _ _ c.requires.0 _ _ _ _ c.loop-c.invariant.0 c.loop-c-test.true _ c.lower_at-x.ensures, ready_same _ _ _ _ c.requires.1 c.loop-c.invariant.1, c.loop-c.invariant.2))

pub walk_links-returns-in_err-count : goal.walk_links-returns-in_err-count
walk_links-returns-in_err-count t c =
    let p = err_from_is_err_and c.from_residual.result c.from_residual.ensures.1 in
    rw (p.1, p.2) (turn_stop _ _ _ _ _ _ c.requires.0 _ _ _ _ c.loop-c.invariant.0 c.loop-c-test.true _ c.lower_at-x.ensures _ c.in_err-count.ensures.4 c.in_err-count.ensures.1 _ c.in_err-count.ensures.0 (number_some _), turn_kept _ _ _ _ _ _ c.requires.0 _ _ _ _ c.loop-c.invariant.0 c.loop-c-test.true _ c.lower_at-x.ensures _ c.in_err-count.ensures.4 c.in_err-count.ensures.1 _ c.in_err-count.ensures.0, c.in_err-count.ensures.2 ∙ c.loop-c.invariant.1, c.in_err-count.ensures.3, c.in_err-count.ensures.4 ∙ c.loop-c.invariant.0.long)

pub walk_links-overflow_add-b : goal.walk_links-overflow_add-b
walk_links-overflow_add-b t c = omega (arith, c.loop-c.invariant.0.steps, c.requires.0.here.within, c.requires.0.here.small)

pub walk_links-push_premise-requires : goal.walk_links-push_premise-requires
walk_links-push_premise-requires t c =
    (turn_at _ _ _ _ _ _ c.requires.0 _ _ _ _ c.loop-c.invariant.0 c.loop-c-test.true _ c.lower_at-x.ensures _ c.in_ok-count.ensures.4 c.in_ok-count.ensures.1 _ c.in_ok-count.ensures.0, turn_passed _ _ _ _ _ _ c.requires.0 _ _ _ _ c.loop-c.invariant.0 c.loop-c-test.true _ c.lower_at-x.ensures _ c.in_ok-count.ensures.4 c.in_ok-count.ensures.1 _ c.in_ok-count.ensures.0, omega (arith, turn_place _ _ _ _ _ _ c.requires.0 _ _ _ _ c.loop-c.invariant.0 c.loop-c-test.true _ c.lower_at-x.ensures _ c.in_ok-count.ensures.4 c.in_ok-count.ensures.1 _ c.in_ok-count.ensures.0 _ c.lower_at-c-in-loop-c.ensures c.if-c-ne0.true))

pub walk_links-loop-c-smaller-then-c-ne0 : goal.walk_links-loop-c-smaller-then-c-ne0
walk_links-loop-c-smaller-then-c-ne0 t c = turn_less _ _ _ c.loop-c-test.true c.lower_at-c-in-loop-c.ensures

pub walk_links-loop-c-preserved-then-c-ne0 : goal.walk_links-loop-c-preserved-then-c-ne0
walk_links-loop-c-preserved-then-c-ne0 t c =
    (next_some _ _ _ _ _ _ c.requires.0 _ _ _ _ c.loop-c.invariant.0 c.loop-c-test.true _ c.lower_at-x.ensures _ c.in_ok-count.ensures.4 c.in_ok-count.ensures.1 _ c.in_ok-count.ensures.0 _ c.lower_at-c-in-loop-c.ensures refl _ c.push_premise.auto.frames c.push_premise.ensures, c.in_ok-count.ensures.2 ∙ c.loop-c.invariant.1, c.in_ok-count.ensures.3, c.walk_node.auto.known ∙ c.loop-c.invariant.3)

pub walk_links-loop-c-smaller : goal.walk_links-loop-c-smaller
walk_links-loop-c-smaller t c = turn_less _ _ _ c.loop-c-test.true c.lower_at-c-in-loop-c.ensures

pub walk_links-loop-c-preserved : goal.walk_links-loop-c-preserved
walk_links-loop-c-preserved t c =
    (next_none _ _ _ _ _ _ c.requires.0 _ _ _ _ c.loop-c.invariant.0 c.loop-c-test.true _ c.lower_at-x.ensures _ c.in_ok-count.ensures.4 c.in_ok-count.ensures.1 _ c.in_ok-count.ensures.0 _ c.lower_at-c-in-loop-c.ensures refl c.if-c-ne0.false, c.in_ok-count.ensures.2 ∙ c.loop-c.invariant.1, c.in_ok-count.ensures.3, c.walk_node.auto.known ∙ c.loop-c.invariant.3)

pub walk_links-shape_of-reaches : goal.walk_links-shape_of-reaches
walk_links-shape_of-reaches t c = ap length c.loop-c.invariant.1

pub walk_links-shape_of-known : goal.walk_links-shape_of-known
walk_links-shape_of-known t c = c.loop-c.invariant.3

pub walk_links-returns : goal.walk_links-returns
walk_links-returns t c =
    (turn_end _ _ _ _ _ _ c.requires.0 _ _ _ _ c.loop-c.invariant.0 c.loop-c-test.false, c.loop-c.invariant.0.kept, c.loop-c.invariant.1, c.loop-c.invariant.2, c.loop-c.invariant.0.long)

pub walk_node-enter-requires : goal.walk_node-enter-requires
walk_node-enter-requires t c = (c.requires.0.here, c.requires.1, c.requires.2)

pub walk_node-overflow_add-result : goal.walk_node-overflow_add-result
walk_node-overflow_add-result t c = omega (arith, entering_count _ _ _ _ _ _ c.requires.0)

pub walk_node-returns-in-Err : goal.walk_node-returns-in-Err
walk_node-returns-in-Err t c =
    (entered_stop _ _ _ _ _ _ c.requires.0 _ c.in-Err.ensures.0 _ c.in-Err.ensures.1 c.in-Err.ensures.4 (number_some _), c.in-Err.ensures.1.kept, c.in-Err.ensures.2, c.in-Err.ensures.3, c.in-Err.ensures.4)

pub walk_node-overflow_add-count : goal.walk_node-overflow_add-count
walk_node-overflow_add-count t c = omega (arith, entering_count _ _ _ _ _ _ c.requires.0)

pub walk_node-walk_links-requires : goal.walk_node-walk_links-requires
walk_node-walk_links-requires t c =
    (omega (arith, c.decreases), (entered_following _ _ _ _ _ _ c.requires.0 _ c.in-Ok.ensures.0 _ c.in-Ok.ensures.1 c.in-Ok.ensures.4 refl, ready_same _ _ _ _ c.requires.1 c.in-Ok.ensures.2, c.in-Ok.ensures.3))

pub walk_node-returns-in-Ok : goal.walk_node-returns-in-Ok
walk_node-returns-in-Ok t c =
    (entered_go _ _ _ _ _ _ c.requires.0 _ c.in-Ok.ensures.0 _ c.in-Ok.ensures.1 c.in-Ok.ensures.4 refl _ c.walk_links.ensures.0, entered_kept _ _ _ _ _ _ c.requires.0 _ c.in-Ok.ensures.0 _ c.in-Ok.ensures.1 c.in-Ok.ensures.4 refl _ c.walk_links.ensures.1, c.walk_links.ensures.2 ∙ c.in-Ok.ensures.2, c.walk_links.ensures.3, c.walk_links.ensures.4 ∙ c.in-Ok.ensures.4)
