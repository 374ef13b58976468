use Rattle.derivation_closedness.specs.Parts.{first_low, second_low, third_low}
use Rattle.derivation_closedness.specs.Orders.{order_all, order_node}
use Rattle.derivation_closedness.specs.Reaches.{first_order, second_order, third_order}
use Rattle.derivation_closedness.proofs.orders.order_of.Goals as goal

pub entry_order-a-requires : goal.entry_order-a-requires
entry_order-a-requires c = search first_low

pub entry_order-b-requires : goal.entry_order-b-requires
entry_order-b-requires c = search second_low

pub entry_order-c-requires : goal.entry_order-c-requires
entry_order-c-requires c = search third_low

pub returns-then-x : goal.returns-then-x
returns-then-x c = search (order_all, second_order)

pub returns : goal.returns
returns c = search (order_node, first_order, second_order, third_order)
