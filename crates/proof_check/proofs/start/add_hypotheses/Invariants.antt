use Rattle.reader.specs.Files.{words}
use Rattle.proof_check.specs.Started.{Left}
use Rattle.proof_check.proofs.start.add_hypotheses.Given as goal

abbrev pub invariant-loop-h : goal.invariant-loop-h
invariant-loop-h l = Left (words l.files) l.numbers l.memory l.h l.l
