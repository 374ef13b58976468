use Prim.Native.Nat.{◌<◌}
use lib.ListN.{length}
use Rattle.reader.specs.Files.{words}
use Rattle.derivation_kept.specs.Order.{Behind}
use Rattle.derivation_kept.proofs.order.found.Given as goal

abbrev pub invariant-loop-q : goal.invariant-loop-q
invariant-loop-q l = (l.q < length l.keys) × Behind (words l.files) l.p l.q

abbrev pub decreases-loop-q : goal.decreases-loop-q
decreases-loop-q l = l.q
