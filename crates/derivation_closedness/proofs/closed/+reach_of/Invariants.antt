use Rattle.derivation_closedness.proofs.closed.+reach_of.Given as goal

abbrev pub decreases-reach_of : goal.decreases-reach_of
decreases-reach_of l = l.i
