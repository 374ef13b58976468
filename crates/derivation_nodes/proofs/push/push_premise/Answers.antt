use native.Mathlib.Omega.{arith}
use Prim.Native.Nat.{◌<◌}
use mathlib.Core.Path.{sym, ◌∙◌}
use Rattle.derivation_members.specs.Needs.{at_given}
use Rattle.derivation_nodes.specs.Premised.{premise_low, next_in, key_small, premised_none, premised_one}
use Rattle.derivation_nodes.proofs.push.push_premise.Goals as goal

pub push_parts-requires : goal.push_parts-requires
push_parts-requires c = (
  c.requires.0,
  c.requires.1,
  c.requires.2,
  sym c.node_at-x.ensures.kind_is ∙ c.if-x-eq65.true,
  c.node_at-x.ensures.parts_are,
)

pub returns-then-x-eq65 : goal.returns-then-x-eq65
returns-then-x-eq65 c = c.push_parts.ensures

pub goal_of-g-requires : goal.goal_of-g-requires
goal_of-g-requires c =
    let low : c.args.b < 2 = premise_low _ _ _ _ _
    c.node_at-x.ensures.kind_is c.if-x-eq65.false
    c.requires.2 in omega arith

pub added_by-e-requires : goal.added_by-e-requires
added_by-e-requires c =
    let low : c.args.b < 2 = premise_low _ _ _ _ _
    c.node_at-x.ensures.kind_is c.if-x-eq65.false
    c.requires.2 in omega arith

pub form_in-key-requires : goal.form_in-key-requires
form_in-key-requires c = (at_given _ _ _ _ _ _ c.requires.0 c.goal_at-goal.ensures, c.node_at-x.ensures.parts_are)

pub overflow_add-d : goal.overflow_add-d
overflow_add-d c = omega (arith, c.requires.0.framed.deep)

pub write-requires : goal.write-requires
write-requires c =
    next_in _ _ _ _ _ c.requires.0
    c.requires.1

pub returns-then-e-eq0 : goal.returns-then-e-eq0
returns-then-e-eq0 c =
    premised_none _ _ _ _ _ _ _ _ _ _
    c.requires.0
    c.requires.1
    c.requires.2
    c.node_at-x.ensures.kind_is
    c.if-x-eq65.false
    c.goal_at-goal.ensures
    c.goal_of-g.ensures c.form_in-key.ensures _ c.write.auto.frames _ _ _
    c.start_at-start.ensures c.count_at-count.ensures
    c.added_by-e.ensures c.if-e-eq0.true c.write.ensures

pub form_in-added-requires : goal.form_in-added-requires
form_in-added-requires c = (at_given _ _ _ _ _ _ c.requires.0 c.goal_at-goal.ensures, c.node_at-x.ensures.parts_are)

pub overflow_add-d-2 : goal.overflow_add-d-2
overflow_add-d-2 c = omega (arith, c.requires.0.framed.deep)

pub overflow_add-added : goal.overflow_add-added
overflow_add-added c =
    let small : c.form_in-added.result < 68719476736 = key_small _ _ _ _ _ _ (at_given _ _ _ _ _ _
    c.requires.0
    c.goal_at-goal.ensures) c.form_in-added.ensures in omega arith

pub overflow_add-count : goal.overflow_add-count
overflow_add-count c =
    omega (
      arith,
      c.count_at-count.ensures,
      c.requires.0.framed.low,
    )

pub write-requires-2 : goal.write-requires-2
write-requires-2 c =
    next_in _ _ _ _ _ c.requires.0
    c.requires.1

pub returns : goal.returns
returns c =
    premised_one _ _ _ _ _ _ _ _ _ _
    c.requires.0
    c.requires.1
    c.requires.2
    c.node_at-x.ensures.kind_is
    c.if-x-eq65.false
    c.goal_at-goal.ensures
    c.goal_of-g.ensures c.form_in-key.ensures _
    c.write-2.auto.frames _ _ _ c.start_at-start.ensures
    c.count_at-count.ensures c.added_by-e.ensures
    c.if-e-eq0.false _ c.form_in-added.ensures c.write-2.ensures
