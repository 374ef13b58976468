-- The derivation rules, kinds 64 to 80, as rows: parts, form of the goal, what must be in the sequent, the premises in figure 1's order.
-- All trees here have their types removed.
use Rattle.std.specs.Prelude.{ℕ, ◌+◌, List, [], ◌∷◌, Bool, true, false, drop, length, replicate}
use Rattle.reader.specs.Tests.{both, every, if_eq}
use Rattle.reader.specs.Kinds.{kinds}
use Rattle.reader.specs.Trees.{Tree, atom_of, first_of, second_of, same, ¬ᵗ◌}
use Rattle.reader.specs.Variables.{replaced, indices_below}
use Rattle.reader.specs.Members.{◌▹◌, part}
use Rattle.reader.specs.Shapes.{Shape, of_kind, negated, term, formula, constant, conjunction, implication, universal, equation}

-- What a node is to derive, members ⊢ goal, and its depth. "Sequents are sets": order is of no account, repeats are counted by the limit alone.
pub record State : Type 0 where
  pub members : List Tree
  pub goal : Tree
  -- nodes from the root to this one, both counted
  pub depth : ℕ

abbrev pub state_at : List Tree → Tree → ℕ → State
state_at Γ P d = record { members = Γ; goal = P; depth = d }

pub record Row : Type 0 where
  -- 13: number, class and form of the parts
  pub shapes : List Shape
  -- 13: the form of the goal, where the rule shows one
  pub goal_shapes : List Shape
  -- 14: what must be in the sequent
  pub needs : List Tree
  -- 14: whether nothing but the goal may be in the sequent
  pub only_goal : Bool
  -- 15: letters that stand for one thing are equal, replacement, closedness
  pub fits : Bool
  -- 16: the constants that must be neither in the sequent nor in the goal
  pub fresh : List ℕ
  -- the premises; 13: as many premises
  pub premises : List State

-- "Every part but B and H is closed: no unbound index", "in derivations only the indices count"
abbrev pub indices_closed : List Tree → Bool
indices_closed ps = every (indices_below 0) ps

-- the premise Γ ⊢ P of a node that is to derive st
abbrev pub premise : State → List Tree → Tree → State
premise st Γ P = state_at Γ P (st.depth + 1)

-- ¬Q, and ⊥
abbrev pub negation : Shape
negation = of_kind kinds.not

abbrev pub falsity : Shape
falsity = of_kind kinds.false

-- a row that shows no fresh constant, and lets other members than the goal be there
abbrev pub rule : List Shape → List Shape → List Tree → Bool → List State → Row
rule shapes goal_shapes needs fits premises =
    record { shapes = shapes; goal_shapes = goal_shapes; needs = needs; only_goal = false; fits = fits; fresh = []; premises = premises }

-- the two letters under the sign of a tree
abbrev letters : Tree → (Tree → Tree → Row) → Row
letters t row = row (first_of t) (second_of t)

-- The rows, with the trees of a node's parts, for what the node is to derive: figure 1's line stands before each. G is the goal.
module _ (ps : List Tree) (st : State) where
  abbrev Γ : List Tree
  Γ = st.members

  abbrev G : Tree
  G = st.goal

  -- "one letter standing for two unequal things" where a letter is the goal
  abbrev is_goal : Tree → Bool
  is_goal P = both (indices_closed ps) (same P G)

  -- the premise Δ ⊢ P
  abbrev from : List Tree → Tree → State
  from Δ P = premise st Δ P

  -- BR1, "all of Γ is the goal and Γ has a member"
  abbrev pub row64 : Row
  row64 = record { shapes = []; goal_shapes = []; needs = G ∷ []; only_goal = true; fits = indices_closed ps; fresh = []; premises = [] }

  -- BR2, "parts are the members kept, one premise": Δ ⊢ G
  abbrev pub row65 : Row
  row65 = rule (replicate (length ps) formula) [] ps (indices_closed ps) (from ps G ∷ [])

  -- BR3: G in Γ
  abbrev pub row66 : Row
  row66 = rule [] [] (G ∷ []) (indices_closed ps) []

  -- BR4, "part P": Γ ⊢ P / Γ, P ⊢ G
  abbrev pub row67 : Row
  row67 = rule (formula ∷ []) [] [] (indices_closed ps) (from Γ (part ps 0) ∷ from (Γ ▹ part ps 0) G ∷ [])

  -- BR6, "goal ¬⊥"
  abbrev pub row68 : Row
  row68 = rule [] (negated falsity ∷ []) [] (indices_closed ps) []

  -- MP, "part P⇒Q, Q the goal": Γ ⊢ P / Γ ⊢ P⇒Q
  abbrev pub row69 : Row
  row69 = letters (part ps 0) (λ P Q. rule (implication ∷ []) [] [] (is_goal Q) (from Γ P ∷ from Γ (part ps 0) ∷ []))

  -- R1, goal P∧Q: Γ ⊢ P / Γ ⊢ Q
  abbrev pub row70 : Row
  row70 = letters G (λ P Q. rule [] (conjunction ∷ []) [] (indices_closed ps) (from Γ P ∷ from Γ Q ∷ []))

  -- R2, "part P∧Q", P the goal: Γ ⊢ P∧Q
  abbrev pub row71 : Row
  row71 = letters (part ps 0) (λ P Q. rule (conjunction ∷ []) [] [] (is_goal P) (from Γ (part ps 0) ∷ []))

  -- R2', "part P∧Q", Q the goal: Γ ⊢ P∧Q
  abbrev pub row72 : Row
  row72 = letters (part ps 0) (λ P Q. rule (conjunction ∷ []) [] [] (is_goal Q) (from Γ (part ps 0) ∷ []))

  -- R3, goal P⇒Q: Γ, P ⊢ Q
  abbrev pub row73 : Row
  row73 = letters G (λ P Q. rule [] (implication ∷ []) [] (indices_closed ps) (from (Γ ▹ P) Q ∷ []))

  -- R4, "part P⇒Q, P in Γ and Q the goal, Γ unchanged": Γ ⊢ P⇒Q
  abbrev pub row74 : Row
  row74 = letters (part ps 0) (λ P Q. rule (implication ∷ []) [] (P ∷ []) (is_goal Q) (from Γ (part ps 0) ∷ []))

  -- R5, "part P": Γ, ¬G ⊢ P / Γ, ¬G ⊢ ¬P
  abbrev pub row75 : Row
  row75 = rule (formula ∷ []) [] [] (indices_closed ps) (from (Γ ▹ ¬ᵗ G) (part ps 0) ∷ from (Γ ▹ ¬ᵗ G) (¬ᵗ (part ps 0)) ∷ [])

  -- R6, "part P", goal ¬Q: Γ, Q ⊢ P / Γ, Q ⊢ ¬P
  abbrev pub row76 : Row
  row76 = letters G (λ Q _. rule (formula ∷ []) (negation ∷ []) [] (indices_closed ps) (from (Γ ▹ Q) (part ps 0) ∷ from (Γ ▹ Q) (¬ᵗ (part ps 0)) ∷ []))

  -- R7, "parts c, B(c)", goal ∀B: Γ ⊢ B(c); "c is in neither Γ nor the goal"
  abbrev pub row77 : Row
  row77 = letters G (λ _ B. record {
    shapes = constant ∷ formula ∷ [];
    goal_shapes = universal ∷ [];
    needs = [];
    only_goal = false;
    fits = both (indices_closed ps) (same (part ps 1) (replaced 0 (part ps 0) B));
    fresh = atom_of (part ps 0) ∷ [];
    premises = from Γ (part ps 1) ∷ [];
  })

  -- R8, "parts ∀B, E", goal B(E): Γ ⊢ ∀B
  abbrev pub row78 : Row
  row78 = letters (part ps 0) (λ _ B. rule (universal ∷ term ∷ []) [] []
      (both (indices_closed ps) (same G (replaced 0 (part ps 1) B))) (from Γ (part ps 0) ∷ []))

  -- R9, "parts B, E=F, B(E)", goal B(F): Γ ⊢ E=F / Γ ⊢ B(E); "B is open in index 0 at most"
  abbrev pub row79 : Row
  row79 = letters (part ps 1) (λ E F.
      let B : Tree = part ps 0 in
      let replacement : Bool = both (same (part ps 2) (replaced 0 E B)) (same G (replaced 0 F B)) in
      rule (formula ∷ equation ∷ formula ∷ []) [] []
      (both (indices_below 1 B) (both (indices_closed (drop 1 ps)) replacement)) (from Γ (part ps 1) ∷ from Γ (part ps 2) ∷ []))

  -- R10, goal E=E
  abbrev pub row80 : Row
  row80 = letters G (λ E F. rule [] (equation ∷ []) [] (both (indices_closed ps) (same E F)) [])

-- no rule: nothing fits
abbrev pub no_row : Row
no_row = rule [] [] [] false []

-- the row of rule kind k, with the trees of a node's parts, for what the node is to derive
unfoldable pub row : ℕ → List Tree → State → Row
row k ps st =
    if_eq k 64 (row64 ps st)
    (if_eq k 65 (row65 ps st)
    (if_eq k 66 (row66 ps st)
    (if_eq k 67 (row67 ps st)
    (if_eq k 68 (row68 ps st)
    (if_eq k 69 (row69 ps st)
    (if_eq k 70 (row70 ps st)
    (if_eq k 71 (row71 ps st)
    (if_eq k 72 (row72 ps st)
    (if_eq k 73 (row73 ps st)
    (if_eq k 74 (row74 ps st)
    (if_eq k 75 (row75 ps st)
    (if_eq k 76 (row76 ps st)
    (if_eq k 77 (row77 ps st)
    (if_eq k 78 (row78 ps st)
    (if_eq k 79 (row79 ps st)
    (if_eq k 80 (row80 ps st) no_row))))))))))))))))
