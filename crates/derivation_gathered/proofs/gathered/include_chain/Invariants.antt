use Prim.Native.Nat.{◌<◌}
use mathlib.Core.Path.{◌≡◌}
use lib.ListN.{length}
use Rattle.reader.specs.Files.{words}
use Rattle.derivation_known.specs.Known.{Known}
use Rattle.derivation_gathered.proofs.gathered.include_chain.Given as goal

abbrev pub invariant-loop-l : goal.invariant-loop-l
invariant-loop-l l =
    (length l.known ≡ length l.initial.known) × (l.l < length l.keys) × Known (words l.files) l.known

abbrev pub decreases-loop-l : goal.decreases-loop-l
decreases-loop-l l = l.l
