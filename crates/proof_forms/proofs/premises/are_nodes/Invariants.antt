use mathlib.Core.Path.{◌≡◌}
use Rattle.reader.specs.Files.{words}
use Rattle.proof_forms.specs.Premises.{are_nodes}
use Rattle.proof_forms.proofs.premises.are_nodes.Given as goal

abbrev pub invariant-loop-l : goal.invariant-loop-l
invariant-loop-l l = are_nodes (words l.files) l.c l.n ≡ are_nodes (words l.files) l.l l.left

abbrev pub decreases-loop-l : goal.decreases-loop-l
decreases-loop-l l = l.l
