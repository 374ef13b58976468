use borrow.Author.Rules.{rules}
use native.Mathlib.Omega.{arith}
use Rattle.derivation_closedness.specs.Orders.{order_limit}
use Rattle.derivation_closedness.specs.Reaches.{reach_low, entry_none, entry_made, first_reach, second_reach, third_reach}
use Rattle.derivation_closedness.proofs.closed.entry_of.Goals as goal

pub returns-then-i-eq0 : goal.returns-then-i-eq0
returns-then-i-eq0 c = search entry_none

pub part_reach-a-requires : goal.part_reach-a-requires
part_reach-a-requires c = (omega arith, c.requires.2)

pub part_reach-b-requires : goal.part_reach-b-requires
part_reach-b-requires c = (omega arith, c.requires.2)

pub part_reach-c-requires : goal.part_reach-c-requires
part_reach-c-requires c = (omega arith, c.requires.2)

pub node_reach-r-requires : goal.node_reach-r-requires
node_reach-r-requires c = (omega arith, search rules, search rules, search first_reach, search second_reach, search third_reach)

pub order_of-order-requires : goal.order_of-order-requires
order_of-order-requires c = let p = c.requires in (omega arith, omega (arith, p.0), search rules, search rules, p.2)

pub overflow_mul-result : goal.overflow_mul-result
overflow_mul-result c = omega (arith, order_limit _ _ c.order_of-order.ensures)

pub overflow_add-result : goal.overflow_add-result
overflow_add-result c =
    let p = c.requires in omega (arith, reach_low _ _ p.1 c.args.i c.node_reach-r.result p.0 c.node_reach-r.ensures, order_limit _ _ c.order_of-order.ensures)

pub overflow_cast-result : goal.overflow_cast-result
overflow_cast-result c =
    let p = c.requires in omega (arith, reach_low _ _ p.1 c.args.i c.node_reach-r.result p.0 c.node_reach-r.ensures, order_limit _ _ c.order_of-order.ensures)

pub returns : goal.returns
returns c = let p = c.requires in entry_made _ _ p.1 _ _ _ p.0 c.node_reach-r.ensures c.order_of-order.ensures
