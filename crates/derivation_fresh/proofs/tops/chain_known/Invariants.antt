use Prim.Native.Nat.{◌<◌}
use mathlib.Core.Path.{◌≡◌}
use lib.ListN.{length}
use Rattle.reader.specs.Files.{words}
use Rattle.reader.specs.Tests.{every}
use Rattle.derivation_frames.specs.Frames.{chain_trees}
use Rattle.derivation_fresh.specs.Fresh.{lacks}
use Rattle.derivation_fresh.proofs.tops.chain_known.Given as goal

abbrev pub invariant-loop-l : goal.invariant-loop-l
invariant-loop-l l =
    (l.l < length l.keys) × (every (lacks l.c) (chain_trees (words l.files) l.chain) ≡ every (lacks l.c) (chain_trees (words l.files) l.l))

abbrev pub decreases-loop-l : goal.decreases-loop-l
decreases-loop-l l = l.l
