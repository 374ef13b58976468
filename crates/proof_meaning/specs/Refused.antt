-- When a pair of an obligation and a proof is refused, and where: the places before the walk are those of `reader_meaning`, the walk is the proof check's.
use Rattle.std.specs.Prelude.{ℕ, List, [], ◌∷◌, map, length}
use Rattle.reader.specs.declared.Answer.{Answer}
use Rattle.reader.specs.Words.{Reader}
use Rattle.reader.specs.Tests.{every}
use Rattle.reader.specs.Trees.{Tree, tree}
use Rattle.reader.specs.Chains.{parts}
use Rattle.reader.specs.Places.{root_of}
use Rattle.reader.specs.Shapes.{have_shapes}
use Rattle.reader.specs.Members.{member, is_fresh, premises_fit}
use Rattle.reader_laws.specs.File.{beside}
use Rattle.reader_meaning.specs.Refused.{RefusedPair}
use Rattle.reader_meaning.specs.Stops.{Test, test, Stops}
use Rattle.proof_rules.specs.Check.{row_of, has_room, premise_sequent, start_sequent}
use Rattle.proof_meaning.specs.Proves.{Proves}

-- the tests of node n at the sequent Γ, in the order of their numbers
abbrev pub node_tests : Reader → List Tree → ℕ → List Test
node_tests rd Γ n =
    test (have_shapes (row_of rd n).shapes (map (tree rd) (parts rd n))) 13 ∷ test (premises_fit 1 rd n (length (row_of rd n).adds)) 13
    ∷ test (every (λ t. member t Γ) (row_of rd n).needs) 14 ∷ test (row_of rd n).fits 15 ∷ test (every (is_fresh Γ) (row_of rd n).fresh) 16
    ∷ test (has_room Γ (row_of rd n).adds) 17 ∷ []

-- the walk from the root, at the hypotheses and the negated goal, stops with an answer
abbrev pub ProofStops : List ℕ → List ℕ → Answer → Type 0
ProofStops ob pf =
    Stops 1 (beside ob pf) (node_tests (beside ob pf)) (premise_sequent (beside ob pf)) (Proves (beside ob pf)) (start_sequent (beside ob pf)) (root_of pf) 0

-- The pair is refused with an answer.
abbrev pub Refused : List ℕ → List ℕ → Answer → Type 0
Refused ob pf = RefusedPair 1 ob pf (ProofStops ob pf)
