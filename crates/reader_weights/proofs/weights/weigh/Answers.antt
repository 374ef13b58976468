use native.Mathlib.Omega.{arith}
use Rattle.reader_weights.specs.Weights.{weigh_constant, weigh_parts, own_small}
use Rattle.reader_weights.proofs.weights.weigh.Goals as goal

pub overflow_add-own_weight : goal.overflow_add-own_weight
overflow_add-own_weight c =
    omega (arith, own_small _ _ c.own_weight.ensures, c.part_weight-a.ensures.1, c.part_weight-b.ensures.1, c.part_weight-c.ensures.1)

pub overflow_add-own_weight-2 : goal.overflow_add-own_weight-2
overflow_add-own_weight-2 c =
    omega (arith, own_small _ _ c.own_weight.ensures, c.part_weight-a.ensures.1, c.part_weight-b.ensures.1, c.part_weight-c.ensures.1)

pub overflow_add-own_weight-3 : goal.overflow_add-own_weight-3
overflow_add-own_weight-3 c =
    omega (arith, own_small _ _ c.own_weight.ensures, c.part_weight-a.ensures.1, c.part_weight-b.ensures.1, c.part_weight-c.ensures.1)

pub returns-then-x : goal.returns-then-x
returns-then-x c = search weigh_constant

pub returns-else-x : goal.returns-else-x
returns-else-x c =
    let p = c.requires in weigh_parts _ _ p.0 _ p.3 c.if-x.false _ p.4 _ _ _ _ c.first_in.ensures c.second_in.ensures c.third_in.ensures c.class_in.ensures _ _ _ _ _
    c.part_weight-a.ensures.0 c.part_weight-b.ensures.0 c.part_weight-c.ensures.0 c.own_weight.ensures c.cap-all.ensures
