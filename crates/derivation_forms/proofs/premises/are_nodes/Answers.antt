use mathlib.Core.Path.{refl}
use Rattle.derivation_forms.specs.Formed.{rest_falls}
use Rattle.derivation_forms.specs.Premises.{nodes_end, nodes_over, nodes_stop, nodes_more}
use Rattle.derivation_forms.proofs.premises.are_nodes.Goals as goal

pub loop-l-init : goal.loop-l-init
loop-l-init c = refl

pub returns-then-left-eq0 : goal.returns-then-left-eq0
returns-then-left-eq0 c = search nodes_over

pub returns-then-not-is_rule : goal.returns-then-not-is_rule
returns-then-not-is_rule c = search nodes_stop

pub loop-l-smaller : goal.loop-l-smaller
loop-l-smaller c = search rest_falls

pub loop-l-preserved : goal.loop-l-preserved
loop-l-preserved c = search nodes_more

pub returns : goal.returns
returns c = search nodes_end
