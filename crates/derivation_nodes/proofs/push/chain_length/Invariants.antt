use Prim.Native.Nat.{◌+◌, ◌≤◌}
use mathlib.Core.Path.{◌≡◌}
use lib.ListN.{length}
use Rattle.reader.specs.Files.{words}
use Rattle.reader.specs.Chains.{linked}
use Rattle.derivation_nodes.proofs.push.chain_length.Given as goal

abbrev pub invariant-loop-l : goal.invariant-loop-l
invariant-loop-l l =
    (l.count + l.l ≤ l.c) × (l.count + length (linked (words l.files) l.l) ≡ length (linked (words l.files) l.c))

abbrev pub decreases-loop-l : goal.decreases-loop-l
decreases-loop-l l = l.l
