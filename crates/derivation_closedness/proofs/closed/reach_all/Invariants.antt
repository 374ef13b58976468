use Rattle.reader.specs.Files.{words}
use Rattle.derivation_closedness.specs.Reaches.{Filled}
use Rattle.derivation_closedness.proofs.closed.reach_all.Given as goal

abbrev pub invariant-loop-i : goal.invariant-loop-i
invariant-loop-i l = Filled (words l.files) l.reaches l.i
