use Rattle.reader_variables.proofs.variables.+bears_at.Given as goal

abbrev pub decreases-bears_at : goal.decreases-bears_at
decreases-bears_at l = l.i
