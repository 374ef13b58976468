use Rattle.derivation_closedness.specs.Orders.{shared_two, shared_third, shared_less, shared_last}
use Rattle.derivation_closedness.proofs.orders.is_shared.Goals as goal

pub returns-then-b-most : goal.returns-then-b-most
returns-then-b-most c = search shared_two

pub returns-then-a-most : goal.returns-then-a-most
returns-then-a-most c = search shared_third

pub returns-then-b-most-2 : goal.returns-then-b-most-2
returns-then-b-most-2 c = search shared_less

pub returns : goal.returns
returns c = search shared_last
