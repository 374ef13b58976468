use Rattle.derivation_known.proofs.set.+include.Given as goal

abbrev pub decreases-include : goal.decreases-include
decreases-include l = l.left
