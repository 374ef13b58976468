use Prim.Native.Nat.{◌<◌}
use mathlib.Core.Path.{◌≡◌}
use lib.ListN.{length}
use Rattle.reader.specs.Files.{words}
use Rattle.derivation_frames.specs.Frames.{chain_trees}
use Rattle.derivation_listed.specs.Filled.{Filled, Outside}
use Rattle.derivation_listed.proofs.filled.fill_chain.Given as goal

abbrev pub invariant-loop-l : goal.invariant-loop-l
invariant-loop-l l =
    (length l.listed ≡ length l.initial.listed) × (l.l < length l.keys) × Filled (words l.files) (length l.keys) l.listed l.n (chain_trees (words l.files) l.l) (chain_trees (words l.files) l.c) × Outside l.n l.initial.listed l.listed

abbrev pub decreases-loop-l : goal.decreases-loop-l
decreases-loop-l l = l.l
