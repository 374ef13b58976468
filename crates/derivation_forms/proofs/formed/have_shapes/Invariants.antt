use Prim.Native.Nat.{◌<◌}
use mathlib.Core.Path.{◌≡◌}
use lib.ListN.{length}
use Rattle.reader.specs.Files.{words}
use Rattle.reader.specs.Shapes.{have_shapes}
use Rattle.derivation_frames.specs.Frames.{chain_trees}
use Rattle.derivation_tables.specs.Tables.{shapes_of}
use Rattle.derivation_forms.proofs.formed.have_shapes.Given as goal

abbrev pub invariant-loop-l : goal.invariant-loop-l
invariant-loop-l l =
    (l.l < length l.keys) × (have_shapes (shapes_of l.n l.code) (chain_trees (words l.files) l.c) ≡ have_shapes (shapes_of l.left l.rest) (chain_trees (words l.files) l.l))

abbrev pub decreases-loop-l : goal.decreases-loop-l
decreases-loop-l l = l.l
