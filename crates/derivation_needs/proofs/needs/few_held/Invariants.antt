use Prim.Native.Nat.{◌<◌}
use mathlib.Core.Path.{◌≡◌}
use lib.ListN.{length}
use Rattle.reader.specs.Files.{words}
use Rattle.reader.specs.Tests.{every}
use Rattle.derivation_frames.specs.Frames.{chain_trees, members_at}
use Rattle.derivation_members.specs.Needs.{held}
use Rattle.derivation_needs.proofs.needs.few_held.Given as goal

abbrev pub invariant-loop-l : goal.invariant-loop-l
invariant-loop-l l =
    (l.l < length l.keys) × (every (held (members_at (words l.files) l.frames l.d)) (chain_trees (words l.files) l.c) ≡ every
    (held (members_at (words l.files) l.frames l.d)) (chain_trees (words l.files) l.l))

abbrev pub decreases-loop-l : goal.decreases-loop-l
decreases-loop-l l = l.l
