use Prim.Native.Nat.{◌<◌, ◌≤◌}
use mathlib.Core.Path.{◌≡◌}
use lib.ListN.{length}
use Rattle.reader.specs.Files.{words}
use Rattle.reader.specs.Tests.{every}
use Rattle.derivation_frames.specs.Frames.{chain_trees}
use Rattle.derivation_known.specs.Known.{Known}
use Rattle.derivation_fresh.specs.Fresh.{lacks}
use Rattle.derivation_fresh.proofs.fresh.chain_lacks.Given as goal

abbrev pub invariant-loop-l : goal.invariant-loop-l
invariant-loop-l l =
    (length l.known ≡ length l.initial.known) × (l.l < length l.keys) × (l.l ≤ l.top) × (every (lacks l.c) (chain_trees (words l.files) l.chain) ≡ every (lacks l.c) (chain_trees (words l.files) l.l)) ×
    Known (words l.files) l.known

abbrev pub decreases-loop-l : goal.decreases-loop-l
decreases-loop-l l = l.l
