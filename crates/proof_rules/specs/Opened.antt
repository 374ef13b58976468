-- What lets the proof check's definitions compute on example files.
use Rattle.std.specs.Prelude.{ℕ}
use Rattle.reader.specs.Examples.{open_reader}
use Rattle.proof_rules.specs.Rules.{row}
use Rattle.proof_rules.specs.Check.{row_of, has_room, row_fault, node_fault, premise_sequent, start_sequent, proof_walk, proof_answer}

-- to unfold it is to unfold all that its line names
unfoldable pub open_proofs : ℕ
unfolding open_reader row row_of has_room row_fault node_fault premise_sequent start_sequent proof_walk proof_answer
open_proofs = 0
