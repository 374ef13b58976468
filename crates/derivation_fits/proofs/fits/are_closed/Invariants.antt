use Prim.Native.Nat.{◌<◌}
use mathlib.Core.Path.{◌≡◌}
use lib.ListN.{length}
use Rattle.reader.specs.Files.{words}
use Rattle.reader.specs.Tests.{every}
use Rattle.derivation_frames.specs.Frames.{chain_trees}
use Rattle.derivation_fits.specs.Fits.{is_closed}
use Rattle.derivation_fits.proofs.fits.are_closed.Given as goal

abbrev pub invariant-loop-l : goal.invariant-loop-l
invariant-loop-l l =
    (l.l < length l.keys) × (every is_closed (chain_trees (words l.files) l.c) ≡ every is_closed (chain_trees (words l.files) l.l))

abbrev pub decreases-loop-l : goal.decreases-loop-l
decreases-loop-l l = l.l
