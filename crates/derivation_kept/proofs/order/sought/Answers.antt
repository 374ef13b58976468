use Rattle.derivation_kept.specs.Order.{found_none, found_behind}
use Rattle.derivation_kept.proofs.order.sought.Goals as goal

pub returns-then-q-ne0 : goal.returns-then-q-ne0
returns-then-q-ne0 c = search found_behind

pub returns-then-not-again : goal.returns-then-not-again
returns-then-not-again c = search found_none
