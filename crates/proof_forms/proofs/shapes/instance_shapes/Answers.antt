use Rattle.reader.specs.TestLaws.{boths}
use Rattle.proof_forms.specs.Shapes.{instance_parts}
use Rattle.proof_forms.proofs.shapes.instance_shapes.Goals as goal

pub returns-then-not-has_shape : goal.returns-then-not-has_shape
returns-then-not-has_shape c = search (instance_parts, boths)

pub returns-then-not-has_shape-2 : goal.returns-then-not-has_shape-2
returns-then-not-has_shape-2 c = search (instance_parts, boths)

pub returns : goal.returns
returns c = search (instance_parts, boths)
