use Rattle.derivation_forms.specs.Formed.{goal_any, goal_form}
use Rattle.derivation_forms.proofs.formed.goal_formed.Goals as goal

pub returns-then-s-eq0 : goal.returns-then-s-eq0
returns-then-s-eq0 c = search goal_any

pub returns : goal.returns
returns c = search goal_form
