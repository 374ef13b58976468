use Rattle.proof_forms.proofs.shapes.+are_types.Given as goal

abbrev pub decreases-are_types : goal.decreases-are_types
decreases-are_types l = l.c
