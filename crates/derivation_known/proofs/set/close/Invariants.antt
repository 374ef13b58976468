use Prim.Native.Nat.{◌*◌}
use Rattle.reader.specs.Files.{words}
use Rattle.derivation_known.specs.Held.{ClosedFrom}
use Rattle.derivation_known.specs.Known.{Facts}
use Rattle.derivation_known.proofs.set.close.Given as goal

abbrev pub invariant-loop-k : goal.invariant-loop-k
invariant-loop-k l = Facts (words l.files) l.known × ClosedFrom (words l.files) l.known (64 * l.k)
