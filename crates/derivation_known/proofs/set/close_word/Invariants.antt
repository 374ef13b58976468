use Rattle.reader.specs.Files.{words}
use Rattle.derivation_known.specs.Held.{ClosedFrom}
use Rattle.derivation_known.specs.Known.{Facts}
use Rattle.derivation_known.proofs.set.close_word.Given as goal

abbrev pub invariant-loop-j : goal.invariant-loop-j
invariant-loop-j l = Facts (words l.files) l.known × ClosedFrom (words l.files) l.known l.j
