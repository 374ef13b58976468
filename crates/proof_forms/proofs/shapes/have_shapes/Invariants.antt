use mathlib.Core.Path.{◌≡◌}
use Rattle.reader.specs.Files.{words}
use Rattle.reader.specs.Chains.{item_trees}
use Rattle.reader.specs.Shapes.{have_shapes}
use Rattle.proof_forms.specs.Shapes.{shapes_of}
use Rattle.proof_forms.proofs.shapes.have_shapes.Given as goal

abbrev pub invariant-loop-l : goal.invariant-loop-l
invariant-loop-l l =
    have_shapes (shapes_of l.n l.code) (item_trees (words l.files) l.c) ≡ have_shapes (shapes_of l.left l.bytes) (item_trees (words l.files) l.l)

abbrev pub decreases-loop-l : goal.decreases-loop-l
decreases-loop-l l = l.l
