use mathlib.Core.Path.{refl, sym, ◌∙◌}
use Rattle.std.proofs.lemmas.Result.{err_from_is_err_and}
use native.Mathlib.Omega.{arith}
use Rattle.proof_walk.specs.Walked.{visit_none, visit_stop, visit_go, follow_none, follow_stop, premises_nodes, premise_room, premise_at, premise_walked}
use Rattle.proof_walk.specs.Walked.{premise_kept, item_node, rest_nodes, item_count, rest_count, links_count, links_fall, premise_falls, rest_falls}
use Rattle.reader.specs.RefusalLaws.{number_some}
use Rattle.proof_walk.specs.Walked.{at_lower, at_marked, at_rest, fault_kept, visit_last, links_last, links_go, turn_few, links_few}
use Rattle.proof_walk.proofs.walk.+walk_links_walk_node_walk_premise.Goals as goal

pub walk_links-returns-then-c-eq0 : goal.walk_links-returns-then-c-eq0
walk_links-returns-then-c-eq0 t c = (search follow_none, refl, c.requires.0.blank)

pub walk_links-walk_premise-requires : goal.walk_links-walk_premise-requires
walk_links-walk_premise-requires t c = (
  premise_falls _ _ _ t c.decreases c.if-c-eq0.false c.references_of-link.ensures.first_is,
  (
    at_lower _ _ _ _ _ _ c.requires.0 _ 1 c.references_of-link.ensures.first_is,
    c.requires.1,
    c.requires.2,
    item_node _ _ c.if-c-eq0.false c.requires.3 _ c.references_of-link.ensures.first_is,
    item_count _ _ c.if-c-eq0.false c.requires.3 _ _ _ c.references_of-link.ensures.first_is c.references_of-link.ensures.third_is c.requires.4,
    c.requires.6,
  ),
)

pub walk_links-returns-in_err-entered : goal.walk_links-returns-in_err-entered
walk_links-returns-in_err-entered t c =
    let p = err_from_is_err_and c.from_residual.result c.from_residual.ensures.1 in
    rw (p.1, p.2) (
      follow_stop _ _ _ _ _ _ c.if-c-eq0.false _ c.references_of-link.ensures.first_is _ c.in_err-entered.ensures.0,
      c.walk_premise.ensures.1,
      c.walk_premise.ensures.2,
    )

pub walk_links-returns-then-link-eq0 : goal.walk_links-returns-then-link-eq0
walk_links-returns-then-link-eq0 t c = (
  links_last _ _ _ _ _ _ _ _ _ c.if-c-eq0.false c.references_of-link.ensures.first_is c.references_of-link.ensures.third_is
      c.in_ok-entered.ensures.0 c.if-link-eq0.true,
  c.walk_premise.ensures.1,
  c.walk_premise.ensures.2,
)

pub walk_links-overflow_add-b : goal.walk_links-overflow_add-b
walk_links-overflow_add-b t c = omega (arith, c.requires.5)

pub walk_links-walk_links-requires : goal.walk_links-walk_links-requires
walk_links-walk_links-requires t c = (
  rest_falls _ _ _ t c.decreases c.if-c-eq0.false c.references_of-link.ensures.third_is,
  (
    at_rest _ _ _ _ _ _ c.requires.0 _ _ _ 3
        c.walk_premise.auto.memory c.walk_premise.auto.scratch
        c.walk_premise.ensures.2 c.walk_premise.ensures.1 c.references_of-link.ensures.third_is,
    c.requires.1,
    fault_kept _ _ _ _ _ c.walk_premise.ensures.1 c.requires.2,
    rest_nodes _ _ c.if-c-eq0.false c.requires.3 _ c.references_of-link.ensures.third_is,
    rest_count _ _ c.if-c-eq0.false c.requires.3 _ _ _ c.references_of-link.ensures.first_is c.references_of-link.ensures.third_is
        c.requires.4 _ _ c.in_ok-entered.ensures.0,
    turn_few _ _ _ _ c.requires.5 c.if-c-eq0.false c.references_of-link.ensures.third_is,
    c.requires.6,
  ),
)

pub walk_links-shape_of-memory : goal.walk_links-shape_of-memory
walk_links-shape_of-memory t c = c.walk_links.auto.memory ∙ c.walk_premise.auto.memory

pub walk_links-shape_of-scratch : goal.walk_links-shape_of-scratch
walk_links-shape_of-scratch t c = c.walk_links.auto.scratch ∙ c.walk_premise.auto.scratch

pub walk_links-returns : goal.walk_links-returns
walk_links-returns t c = (
  links_go _ _ _ _ _ _ _ _ _ _ _ _
      c.if-c-eq0.false c.references_of-link.ensures.first_is c.references_of-link.ensures.third_is
      c.in_ok-entered.ensures.0 c.walk_premise.ensures.1 c.walk_links.ensures.0,
  c.walk_links.ensures.1 ∙ c.walk_premise.ensures.1,
  c.walk_links.ensures.2,
)

pub walk_node-returns-then-n-eq0 : goal.walk_node-returns-then-n-eq0
walk_node-returns-then-n-eq0 t c = (search visit_none, refl, c.requires.0.blank)

pub walk_node-overflow_add-entered : goal.walk_node-overflow_add-entered
walk_node-overflow_add-entered t c = omega arith

pub walk_node-returns-in-Err : goal.walk_node-returns-in-Err
walk_node-returns-in-Err t c = (
  visit_stop _ _ _ _ c.if-n-eq0.false _ c.in-Err.ensures.0 (number_some _),
  refl,
  c.node_fault.ensures.1,
)

pub walk_node-returns-then-links-eq0 : goal.walk_node-returns-then-links-eq0
walk_node-returns-then-links-eq0 t c = (
  visit_last _ _ _ _ _ c.if-n-eq0.false c.in_default.ensures.0 c.lower_at-links.ensures c.if-links-eq0.true,
  refl,
  c.node_fault.ensures.1,
)

pub walk_node-walk_links-requires : goal.walk_node-walk_links-requires
walk_node-walk_links-requires t c = (
  links_fall _ _ _ t c.decreases c.if-n-eq0.false c.lower_at-links.ensures,
  (
    at_marked _ _ _ _ _ _ c.requires.0 _ _ 2 c.node_fault.auto.scratch c.node_fault.ensures.1 c.lower_at-links.ensures,
    c.requires.0.within,
    sym c.in_default.ensures.0,
    premises_nodes _ _ _ _ c.in_default.ensures.0 c.lower_at-links.ensures,
    links_count _ _ _ _ c.if-n-eq0.false c.lower_at-links.ensures c.requires.2,
    links_few _ _ _ _ _ _ _ c.requires.0 c.lower_at-links.ensures,
    c.requires.3,
  ),
)

pub walk_node-returns : goal.walk_node-returns
walk_node-returns t c = (
  visit_go _ _ _ _ c.if-n-eq0.false c.in_default.ensures.0 _ _ c.lower_at-links.ensures c.walk_links.ensures.0,
  c.walk_links.ensures.1,
  c.walk_links.ensures.2,
)

pub walk_premise-add_premise-i-requires : goal.walk_premise-add_premise-i-requires
walk_premise-add_premise-i-requires t c = (
  c.requires.0.ready,
  premise_room _ _ _ _ _ _ c.requires.0 _ _
      c.requires.2,
  c.requires.1,
)

pub walk_premise-walk_node-requires : goal.walk_premise-walk_node-requires
walk_premise-walk_node-requires t c = (
  omega (arith, c.decreases),
  (
    premise_at _ _ _ _ _ _ c.requires.0 _ _ _ _
        c.add_premise-i.ensures,
    c.requires.3,
    c.requires.4,
    c.requires.5,
  ),
)

pub walk_premise-returns : goal.walk_premise-returns
walk_premise-returns t c = (
  premise_walked _ _ _ _ _ _ _ _ _ _ _ c.add_premise-i.ensures
      c.walk_node.ensures.0,
  premise_kept _ _ _ _ _ _ _ _ _ c.add_premise-i.ensures
      c.walk_node.ensures.1,
  c.walk_node.ensures.2,
)
