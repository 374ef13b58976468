-- The derivation check: a node's tests, the walk over the derivation, the answer for any two byte lists.
use Rattle.std.specs.Prelude.{ℕ, List, ◌∷◌, map, Bool, true, leb, get_or, length}
use Rattle.reader.specs.declared.Answer.{Answer}
use Rattle.reader.specs.Words.{Reader, word}
use Rattle.reader.specs.Tests.{demand, every, if_true}
use Rattle.reader.specs.Kinds.{modes}
use Rattle.reader.specs.Trees.{Tree, same}
use Rattle.reader.specs.Answers.{or_answer}
use Rattle.reader.specs.Places.{hypotheses, goal, root_of, count_of, reading}
use Rattle.reader.specs.Members.{member, is_fresh, premises_fit}
use Rattle.reader.specs.Shapes.{Shape, has_shape, have_shapes}
use Rattle.reader.specs.Walk.{walk_node}
use Rattle.derivation_rules.specs.Erase.{⌊◌⌋, bare_parts}
use Rattle.derivation_rules.specs.Rules.{State, state_at, Row, row}

-- "number, class or form of parts or goal"
unfoldable pub goal_formed : List Shape → Tree → Bool
goal_formed shapes goal = every (λ s. has_shape s goal) shapes

-- "a needed member absent"
unfoldable pub needs_met : List Tree → List Tree → Bool
needs_met Γ needs = every (λ t. member t Γ) needs

-- "or for BR1 another present"
unfoldable pub no_other : Bool → State → Bool
no_other only_goal st = if_true only_goal (every (λ t. same t st.goal) st.members) true

-- "In R7 c is in neither Γ nor the goal."
unfoldable pub in_neither : State → ℕ → Bool
in_neither st c = is_fresh (st.goal ∷ st.members) c

-- "a premise's sequent over 1,024 members, repeats counted (2,048 in derivations)"
unfoldable pub few_members : State → Bool
few_members p = leb (length p.members) 2048

-- "over 8,192 nodes from the root to this one, both counted"
unfoldable pub depth_fits : State → Bool
depth_fits st = leb st.depth 8192

-- "within one record or node the lower number wins": the refusal of node n, whose row is r, where it is to derive st, 0 for none
unfoldable pub row_fault : Reader → ℕ → State → Row → ℕ
row_fault rd n st r =
    demand (have_shapes r.shapes (bare_parts rd n)) 13
    (demand (goal_formed r.goal_shapes st.goal) 13
    (demand (premises_fit modes.derivation rd n (length r.premises)) 13
    (demand (needs_met st.members r.needs) 14
    (demand (no_other r.only_goal st) 14
    (demand r.fits 15 (demand (every (in_neither st) r.fresh) 16 (demand (every few_members r.premises) 17 (demand (depth_fits st) 18 0))))))))

-- the row of node n
unfoldable pub row_of : Reader → State → ℕ → Row
row_of rd st n = row (rd n 0) (bare_parts rd n) st

unfoldable pub node_fault : Reader → State → ℕ → ℕ
node_fault rd st n = row_fault rd n st (row_of rd st n)

-- what premise b of node n is to derive
unfoldable pub premise_state : Reader → State → ℕ → ℕ → State
premise_state rd st n b = get_or (row_of rd st n).premises b st

-- the hypotheses, types removed
unfoldable pub bare_hypotheses : Reader → List Tree
bare_hypotheses rd = map ⌊◌⌋ (hypotheses rd)

-- "The goal of demand 3, and of a derivation's start", types removed
unfoldable pub bare_goal : Reader → Tree
bare_goal rd = ⌊ goal rd ⌋

-- "The start is: hypotheses ⊢ goal."
unfoldable pub start_state : Reader → State
start_state rd = state_at (bare_hypotheses rd) (bare_goal rd) 1

-- the walk from the root
unfoldable pub derivation_walk : Reader → ℕ → Answer
derivation_walk rd root = walk_node rd (node_fault rd) (premise_state rd) root (start_state rd) 0

-- the four numbers for any two byte lists
unfoldable pub derivation_answer : List ℕ → List ℕ → Answer
derivation_answer ob dv = or_answer (reading modes.derivation ob dv) (derivation_walk (word ob dv (count_of ob)) (root_of dv))
