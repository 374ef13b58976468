use Rattle.reader.specs.Files.{words}
use Rattle.proof_fresh.specs.Marks.{Marked}
use Rattle.proof_fresh.proofs.fresh.mark_all.Given as goal

abbrev pub invariant-loop-j : goal.invariant-loop-j
invariant-loop-j l = Marked (words l.files) l.c l.marks l.j
