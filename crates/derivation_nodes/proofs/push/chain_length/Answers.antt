use native.Mathlib.Omega.{arith}
use Rattle.derivation_forms.specs.Formed.{rest_falls}
use Rattle.derivation_nodes.specs.Premised.{length_turn, length_end, length_low}
use Rattle.derivation_nodes.proofs.push.chain_length.Goals as goal

pub loop-l-init : goal.loop-l-init
loop-l-init c = (omega arith, omega arith)

pub overflow_add-count : goal.overflow_add-count
overflow_add-count c = omega arith

pub loop-l-smaller : goal.loop-l-smaller
loop-l-smaller c = search rest_falls

pub loop-l-preserved : goal.loop-l-preserved
loop-l-preserved c = (search length_low, search length_turn)

pub returns : goal.returns
returns c = search length_end
