use Rattle.derivation_closedness.specs.Orders.{above_most, above_shared, above_alone}
use Rattle.derivation_closedness.proofs.orders.order_above.Goals as goal

pub returns-then-most-ge255 : goal.returns-then-most-ge255
returns-then-most-ge255 c = search above_most

pub returns-then-is_shared : goal.returns-then-is_shared
returns-then-is_shared c = search above_shared

pub returns : goal.returns
returns c = search above_alone
