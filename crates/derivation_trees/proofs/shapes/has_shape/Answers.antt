use Rattle.derivation_trees.specs.Shapes.{shape_kind, shape_class, shape_plain, shape_negated}
use Rattle.derivation_trees.specs.Makers.{normal_less}
use Rattle.derivation_trees.proofs.shapes.has_shape.Goals as goal

pub returns-then-s-lt32 : goal.returns-then-s-lt32
returns-then-s-lt32 c = search shape_kind

pub returns-then-s-lt64 : goal.returns-then-s-lt64
returns-then-s-lt64 c = search shape_class

pub returns-then-key-lt262144 : goal.returns-then-key-lt262144
returns-then-key-lt262144 c = search shape_plain

pub kind_of-requires-2 : goal.kind_of-requires-2
kind_of-requires-2 c = search normal_less

pub returns : goal.returns
returns c = search shape_negated
