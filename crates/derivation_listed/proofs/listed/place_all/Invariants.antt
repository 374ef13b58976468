use Prim.Native.Nat.{◌+◌, ◌≤◌}
use Rattle.derivation_listed.specs.Listed.{Indexed}
use Rattle.derivation_listed.proofs.listed.place_all.Given as goal

abbrev pub invariant-loop-i : goal.invariant-loop-i
invariant-loop-i l = (l.i ≤ l.last + 1) × Indexed l.listed l.slots l.i
