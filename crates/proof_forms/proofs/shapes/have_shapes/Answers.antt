use native.Mathlib.Omega.{arith}
use mathlib.Core.Path.{refl}
use Rattle.proof_references.specs.References.{next_falls}
use Rattle.proof_forms.specs.Shapes.{shapes_end, shapes_over, shapes_stop, shapes_more}
use Rattle.proof_forms.proofs.shapes.have_shapes.Goals as goal

pub loop-l-init : goal.loop-l-init
loop-l-init c = refl

pub returns-then-left-eq0 : goal.returns-then-left-eq0
returns-then-left-eq0 c = search shapes_over

pub returns-then-not-has_shape : goal.returns-then-not-has_shape
returns-then-not-has_shape c = search shapes_stop

pub overflow_sub-left : goal.overflow_sub-left
overflow_sub-left c = omega arith

pub loop-l-smaller : goal.loop-l-smaller
loop-l-smaller c = search next_falls

pub loop-l-preserved : goal.loop-l-preserved
loop-l-preserved c = search shapes_more

pub returns : goal.returns
returns c = search shapes_end
