use Rattle.proof_forms.specs.Shapes.{shape_kind, shape_class, shape_other, shape_negated}
use Rattle.proof_forms.proofs.shapes.+has_shape.Goals as goal

pub returns-then-s-lt32 : goal.returns-then-s-lt32
returns-then-s-lt32 t c = search shape_kind

pub returns-then-s-lt64 : goal.returns-then-s-lt64
returns-then-s-lt64 t c = search shape_class

pub returns-then-k : goal.returns-then-k
returns-then-k t c = search shape_other

pub returns : goal.returns
returns t c = search shape_negated
