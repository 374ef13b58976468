use Rattle.derivation_known.specs.Held.{SameRows}
use Rattle.derivation_gathered.proofs.gathered.gather_added.Given as goal

abbrev pub invariant-loop-f : goal.invariant-loop-f
invariant-loop-f l = SameRows l.initial.known l.known
