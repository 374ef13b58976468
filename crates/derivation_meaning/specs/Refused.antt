-- When a pair of an obligation and a derivation is refused, and where: the places before the walk are those of `reader_meaning`, the walk is the derivation
-- check's.
use Rattle.std.specs.Prelude.{ℕ, List, [], ◌∷◌, length}
use Rattle.reader.specs.declared.Answer.{Answer}
use Rattle.reader.specs.Words.{Reader}
use Rattle.reader.specs.Tests.{every}
use Rattle.reader.specs.Places.{root_of}
use Rattle.reader.specs.Shapes.{have_shapes}
use Rattle.reader.specs.Members.{premises_fit}
use Rattle.reader_laws.specs.File.{beside}
use Rattle.reader_meaning.specs.Refused.{RefusedPair}
use Rattle.reader_meaning.specs.Stops.{Test, test, Stops}
use Rattle.derivation_rules.specs.Erase.{bare_parts}
use Rattle.derivation_rules.specs.Rules.{State}
use Rattle.derivation_rules.specs.Check.{goal_formed, needs_met, no_other, in_neither, few_members, depth_fits, row_of, premise_state, start_state}
use Rattle.derivation_meaning.specs.Derives.{Derives}

-- the tests of node n where it is to derive st, in the order of their numbers
abbrev pub node_tests : Reader → State → ℕ → List Test
node_tests rd st n =
    test (have_shapes (row_of rd st n).shapes (bare_parts rd n)) 13 ∷ test (goal_formed (row_of rd st n).goal_shapes st.goal) 13
    ∷ test (premises_fit 2 rd n (length (row_of rd st n).premises)) 13 ∷ test (needs_met st.members (row_of rd st n).needs) 14
    ∷ test (no_other (row_of rd st n).only_goal st) 14 ∷ test (row_of rd st n).fits 15 ∷ test (every (in_neither st) (row_of rd st n).fresh) 16
    ∷ test (every few_members (row_of rd st n).premises) 17 ∷ test (depth_fits st) 18 ∷ []

-- node n derives what st asks, with k nodes
abbrev pub DerivesState : Reader → State → ℕ → ℕ → Type 0
DerivesState rd st n k = Derives rd st.members st.goal st.depth n k

-- the walk from the root, at depth 1, for the goal from the hypotheses, types removed, stops with an answer
abbrev pub DerivationStops : List ℕ → List ℕ → Answer → Type 0
DerivationStops ob dv =
    Stops 2 (beside ob dv) (node_tests (beside ob dv)) (premise_state (beside ob dv)) (DerivesState (beside ob dv)) (start_state (beside ob dv)) (root_of dv) 0

-- The pair is refused with an answer.
abbrev pub RefusedDerivation : List ℕ → List ℕ → Answer → Type 0
RefusedDerivation ob dv = RefusedPair 2 ob dv (DerivationStops ob dv)
