use Rattle.derivation_tables.proofs.tables.+digit.Given as goal

abbrev pub decreases-digit : goal.decreases-digit
decreases-digit l = l.j
