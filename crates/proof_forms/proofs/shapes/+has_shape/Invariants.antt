use Rattle.proof_forms.proofs.shapes.+has_shape.Given as goal

abbrev pub decreases-has_shape : goal.decreases-has_shape
decreases-has_shape l = l.s
