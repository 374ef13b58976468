-- From a derivation to an accepting walk, by recursion on the derivation.
use Prim.Native.Nat.{ℕ, zero, suc, ◌+◌, ◌<◌, ◌≤◌}
use Rattle.std.specs.Prelude.{◌≡◌, true, false, get_or}
use Rattle.std.proofs.Math.Path.{refl, ap}
use Rattle.std.proofs.Common.{sym, subst, ◌∙◌, arith}
use mathlib.Core.List.{List, [], ◌∷◌}
use Rattle.std.proofs.lemmas.Bool.{false≢true}
use Rattle.std.proofs.Math.ListN.{length}
use Rattle.reader.specs.Words.{Reader}
use Rattle.reader.specs.Tests.{both, between, every, if_eq, if_lt}
use Rattle.reader.specs.Kinds.{is_rule}
use Rattle.reader.specs.Trees.{Tree, kind_of, atom_of, first_of, second_of, ⊥ᵗ, ◌∧ᵗ◌, ◌⇒ᵗ◌, ¬ᵗ◌, ◌=ᵗ◌}
use Rattle.reader.specs.Chains.{premises}
use Rattle.reader.specs.Variables.{index_below, indices_below}
use Rattle.reader.specs.Shapes.{has_shape, have_shapes, term, formula, equation}
use Rattle.reader.specs.Notions.{◌∈◌, Every, ◌⊆◌, IsFormula, ◌⟨◌⟩, NoIndex, Fresh}
use Rattle.reader.specs.TreeLaws.{same_self}
use Rattle.reader.specs.WalkLaws.{Each, Passes, passes}
use Rattle.reader_laws.specs.Scan.{both_join}
use Rattle.reader_laws.specs.NotionLaws.{every_0, every_more, every_1, every_2, indices_in, indices_out}
use Rattle.derivation_rules.specs.Erase.{bare_parts, constantᵇ, ∀ᵇ}
use Rattle.derivation_rules.specs.Rules.{State, state_at, Row, row}
use Rattle.derivation_rules.specs.Check.{goal_formed, row_of, node_fault, premise_state}
use Rattle.derivation_meaning.specs.Derives.{DerivationNode, Derives}
use Rattle.derivation_meaning.proofs.RowLaws.{Passed, faultless, has_class_lem, shapes_join, all_shapes, closed_out}
use Rattle.derivation_meaning.proofs.RowLaws.{Premises, none_premises, one_premise, two_premises, premise_each}

-- what any derivation says of its node and its sequent
node_rule : (rd : Reader) (n k : ℕ) (ps : List Tree) (xs : List ℕ) (Γ : List Tree) (d : ℕ) → is_rule 2 k ≡ true → DerivationNode rd n k ps xs Γ d →
    (is_rule 2 (rd n 0) ≡ true) × (length Γ ≤ 2048)
node_rule rd n k ps xs Γ d h node = (ap (is_rule 2) node.kind ∙ h, node.members)

pub derives_rule : {rd : Reader} {Γ : List Tree} {P : Tree} {d n k : ℕ} → Derives rd Γ P d n k → (is_rule 2 (rd n 0) ≡ true) × (length Γ ≤ 2048)
unfolding is_rule between if_eq if_lt
derives_rule (Derives.BR1 node m all) = node_rule _ _ 64 _ _ _ _ refl node
derives_rule (Derives.BR2 node f c s p) = node_rule _ _ 65 _ _ _ _ refl node
derives_rule (Derives.BR3 node m) = node_rule _ _ 66 _ _ _ _ refl node
derives_rule (Derives.BR4 node f c p q) = node_rule _ _ 67 _ _ _ _ refl node
derives_rule (Derives.BR6 node) = node_rule _ _ 68 _ _ _ _ refl node
derives_rule (Derives.MP node c p q) = node_rule _ _ 69 _ _ _ _ refl node
derives_rule (Derives.R1 node p q) = node_rule _ _ 70 _ _ _ _ refl node
derives_rule (Derives.R2 node c p) = node_rule _ _ 71 _ _ _ _ refl node
derives_rule (Derives.R2' node c p) = node_rule _ _ 72 _ _ _ _ refl node
derives_rule (Derives.R3 node p) = node_rule _ _ 73 _ _ _ _ refl node
derives_rule (Derives.R4 node c m p) = node_rule _ _ 74 _ _ _ _ refl node
derives_rule (Derives.R5 node f c p q) = node_rule _ _ 75 _ _ _ _ refl node
derives_rule (Derives.R6 node f c p q) = node_rule _ _ 76 _ _ _ _ refl node
derives_rule (Derives.R7 node f c fresh p) = node_rule _ _ 77 _ _ _ _ refl node
derives_rule (Derives.R8 node t c e p) = node_rule _ _ 78 _ _ _ _ refl node
derives_rule (Derives.R9 node f g o c e p q) = node_rule _ _ 79 _ _ _ _ refl node
derives_rule (Derives.R10 node) = node_rule _ _ 80 _ _ _ _ refl node

-- the premises of a row: their states, beside the kinds of their nodes and the numbers of their members
module _ (rd : Reader) where
  -- each is a rule node, and the members of its state are within the limit
  record Ready (ss : List State) (xs : List ℕ) : Type 0 where
    number : length xs ≡ length ss
    rules : every (λ x. is_rule 2 (rd x 0)) xs ≡ true
    limit : Every (λ s. length s.members ≤ 2048) ss

  ready_0 : Ready [] []
  unfolding every
  ready_0 = record { number = refl; rules = refl; limit = every_0 (λ s. length s.members ≤ 2048) }

  ready_more : (s : State) (ss : List State) (x : ℕ) (xs : List ℕ) → (is_rule 2 (rd x 0) ≡ true) × (length s.members ≤ 2048) → Ready ss xs →
      Ready (s ∷ ss) (x ∷ xs)
  unfolding every
  ready_more s ss x xs p r = record {
    number = ap suc r.number;
    rules = simp (every, p.0) r.rules;
    limit = every_more (λ (s : State). length s.members ≤ 2048) s ss p.1 r.limit;
  }

module _ (rd : Reader) (head : rd 0 0 ≡ 1) where
  -- the walk from node n accepts the state, and counts k nodes
  abbrev pub Goes : State → ℕ → ℕ → Type 0
  Goes = Passes rd (node_fault rd) (premise_state rd)

  -- record 0 is the header
  given : (n k : ℕ) → rd n 0 ≡ k → 1 < k → 0 < n
  given zero k e h = absurd (omega (arith, head))
  given (suc n) k e h = omega arith

  module _ (n k c d : ℕ) (ps : List Tree) (xs : List ℕ) (Γ : List Tree) (G : Tree) (node : DerivationNode rd n k ps xs Γ d) where
    abbrev here_row : Row
    here_row = row k ps (state_at Γ G d)

    row_is : row_of rd (state_at Γ G d) n ≡ here_row
    unfolding row_of
    row_is =
        ap (λ (k : ℕ). row k (bare_parts rd n) (state_at Γ G d)) node.kind ∙ ap (λ (ps : List Tree). row k ps (state_at Γ G d)) node.parts_of

    -- a node whose tests pass and whose premises are accepted
    enter : 1 < k → have_shapes here_row.shapes ps ≡ true → goal_formed here_row.goal_shapes G ≡ true →
        here_row.needs ⊆ Γ → (here_row.only_goal ≡ true → Every (λ t. t ≡ G) Γ) → here_row.fits ≡ true →
        Every (λ e. Fresh e (G ∷ Γ)) here_row.fresh → Ready rd here_row.premises xs → Premises Goes here_row.premises xs c →
        Goes (state_at Γ G d) n (suc c)
    unfolding node_fault premise_state
    enter big shapes goal needs others fits fresh ready walks =
        passes rd (node_fault rd) (premise_state rd) (state_at Γ G d) n c (given n k node.kind big) fault each
      where
        passed : Passed rd n (state_at Γ G d) here_row
        passed = record {
          shapes = ap (have_shapes here_row.shapes) node.parts_of ∙ shapes;
          goal_shapes = goal;
          number = ap length node.premises_of ∙ ready.number;
          rules = ap (every (λ x. is_rule 2 (rd x 0))) node.premises_of ∙ ready.rules;
          needs = needs;
          others = others;
          fits = fits;
          fresh = fresh;
          limit = ready.limit;
          depth = node.depth;
        }

        fault : node_fault rd (state_at Γ G d) n ≡ 0
        fault = faultless rd n (state_at Γ G d) (row_of rd (state_at Γ G d) n) (subst (Passed rd n (state_at Γ G d)) (sym row_is) passed)

        state : (j : ℕ) → premise_state rd (state_at Γ G d) n (0 + j) ≡ get_or here_row.premises j (state_at Γ G d)
        state j =
            let z : 0 + j ≡ j = omega arith in
            ap (premise_state rd (state_at Γ G d) n) z ∙ ap (λ (r : Row). get_or r.premises j (state_at Γ G d)) row_is

        each : Each Goes (premise_state rd) (state_at Γ G d) n 0 (premises rd n) c
        each = rw node.premises_of (premise_each Goes (premise_state rd) (state_at Γ G d) n here_row.premises xs 0 c state walks)

  -- rows that need no member, let other members than the goal be there, show no fresh constant
  no_needs : (Γ : List Tree) → [] ⊆ Γ
  no_needs Γ = every_0 (λ t. t ∈ Γ)

  no_others : {A : Type 0} → false ≡ true → A
  no_others e = absurd (false≢true e)

  no_fresh : (Γ : List Tree) (G : Tree) → Every (λ c. Fresh c (G ∷ Γ)) []
  no_fresh Γ G = every_0 (λ c. Fresh c (G ∷ Γ))

  -- the one member that is needed
  one_need : (Γ : List Tree) (t : Tree) → t ∈ Γ → (t ∷ []) ⊆ Γ
  one_need Γ t m = every_1 (λ t. t ∈ Γ) t m

  -- one part, a formula
  one_formula : (t : Tree) → IsFormula t → have_shapes (formula ∷ []) (t ∷ []) ≡ true
  unfolding have_shapes
  one_formula t f = shapes_join formula t [] [] (has_class_lem 5 t f) refl

  -- closed parts
  closed_1 : (t : Tree) → NoIndex t → every (indices_below 0) (t ∷ []) ≡ true
  closed_1 t h = closed_out (t ∷ []) (every_1 NoIndex t h)

  closed_2 : (t u : Tree) → NoIndex t → NoIndex u → every (indices_below 0) (t ∷ u ∷ []) ≡ true
  closed_2 t u h g = closed_out (t ∷ u ∷ []) (every_2 NoIndex t u h g)

  -- a constant has no index
  constant_closed : (c : ℕ) → NoIndex (constantᵇ c)
  unfolding indices_below index_below
  constant_closed c = indices_in 0 (constantᵇ c) refl

  pub derives_goes : {Γ : List Tree} {G : Tree} {d n k : ℕ} → Derives rd Γ G d n k → Goes (state_at Γ G d) n k
  unfolding row if_eq have_shapes has_shape goal_formed every kind_of first_of second_of atom_of both
  derives_goes (Derives.BR1 {Γ = Γ} {P = P} {d = d} {n = n} node m all) =
      enter n 64 0 d [] [] Γ P node (omega arith) refl refl (one_need Γ _ m) (λ e. all) refl (no_fresh Γ P)
      (ready_0 rd) (none_premises Goes)
  derives_goes (Derives.BR2 {Γ = Γ} {Δ = Δ} {P = P} {d = d} {n = n} {x = x} {i = i} node f c s p) =
      enter n 65 i d Δ (x ∷ []) Γ P node (omega arith) (all_shapes formula Δ (λ t m. has_class_lem 5 t (f t m))) refl s no_others (closed_out Δ c) (no_fresh Γ P)
      (ready_more rd _ [] x [] (derives_rule p) (ready_0 rd)) (one_premise Goes _ x i (derives_goes p))
  derives_goes (Derives.BR3 {Γ = Γ} {P = P} {d = d} {n = n} node m) =
      enter n 66 0 d [] [] Γ P node (omega arith) refl refl (one_need Γ _ m) no_others refl (no_fresh Γ P)
      (ready_0 rd) (none_premises Goes)
  derives_goes (Derives.BR4 {Γ = Γ} {P = P} {Q = Q} {d = d} {n = n} {x = x} {y = y} {i = i} {j = j} node f c p q) =
      enter n 67 (i + j) d (P ∷ []) (x ∷ y ∷ []) Γ Q node (omega arith) (one_formula P f) refl (no_needs Γ) no_others (closed_1 P c) (no_fresh Γ Q)
      (ready_more rd _ _ x _ (derives_rule p) (ready_more rd _ [] y [] (derives_rule q) (ready_0 rd)))
      (two_premises Goes _ _ x y i j (derives_goes p) (derives_goes q))
  derives_goes (Derives.BR6 {Γ = Γ} {d = d} {n = n} node) =
      enter n 68 0 d [] [] Γ (¬ᵗ ⊥ᵗ) node (omega arith) refl refl (no_needs Γ) no_others refl (no_fresh Γ (¬ᵗ ⊥ᵗ))
      (ready_0 rd) (none_premises Goes)
  derives_goes (Derives.MP {Γ = Γ} {P = P} {Q = Q} {d = d} {n = n} {x = x} {y = y} {i = i} {j = j} node c p q) =
      enter n 69 (i + j) d (P ⇒ᵗ Q ∷ []) (x ∷ y ∷ []) Γ Q node (omega arith) refl refl (no_needs Γ) no_others
      (both_join _ _ (closed_1 (P ⇒ᵗ Q) c) (same_self Q)) (no_fresh Γ Q)
      (ready_more rd _ _ x _ (derives_rule p) (ready_more rd _ [] y [] (derives_rule q) (ready_0 rd)))
      (two_premises Goes _ _ x y i j (derives_goes p) (derives_goes q))
  derives_goes (Derives.R1 {Γ = Γ} {P = P} {Q = Q} {d = d} {n = n} {x = x} {y = y} {i = i} {j = j} node p q) =
      enter n 70 (i + j) d [] (x ∷ y ∷ []) Γ (P ∧ᵗ Q) node (omega arith) refl refl (no_needs Γ) no_others refl (no_fresh Γ (P ∧ᵗ Q))
      (ready_more rd _ _ x _ (derives_rule p) (ready_more rd _ [] y [] (derives_rule q) (ready_0 rd)))
      (two_premises Goes _ _ x y i j (derives_goes p) (derives_goes q))
  derives_goes (Derives.R2 {Γ = Γ} {P = P} {Q = Q} {d = d} {n = n} {x = x} {i = i} node c p) =
      enter n 71 i d (P ∧ᵗ Q ∷ []) (x ∷ []) Γ P node (omega arith) refl refl (no_needs Γ) no_others
      (both_join _ _ (closed_1 (P ∧ᵗ Q) c) (same_self P)) (no_fresh Γ P)
      (ready_more rd _ [] x [] (derives_rule p) (ready_0 rd)) (one_premise Goes _ x i (derives_goes p))
  derives_goes (Derives.R2' {Γ = Γ} {P = P} {Q = Q} {d = d} {n = n} {x = x} {i = i} node c p) =
      enter n 72 i d (P ∧ᵗ Q ∷ []) (x ∷ []) Γ Q node (omega arith) refl refl (no_needs Γ) no_others
      (both_join _ _ (closed_1 (P ∧ᵗ Q) c) (same_self Q)) (no_fresh Γ Q)
      (ready_more rd _ [] x [] (derives_rule p) (ready_0 rd)) (one_premise Goes _ x i (derives_goes p))
  derives_goes (Derives.R3 {Γ = Γ} {P = P} {Q = Q} {d = d} {n = n} {x = x} {i = i} node p) =
      enter n 73 i d [] (x ∷ []) Γ (P ⇒ᵗ Q) node (omega arith) refl refl (no_needs Γ) no_others refl (no_fresh Γ (P ⇒ᵗ Q))
      (ready_more rd _ [] x [] (derives_rule p) (ready_0 rd)) (one_premise Goes _ x i (derives_goes p))
  derives_goes (Derives.R4 {Γ = Γ} {P = P} {Q = Q} {d = d} {n = n} {x = x} {i = i} node c m p) =
      enter n 74 i d (P ⇒ᵗ Q ∷ []) (x ∷ []) Γ Q node (omega arith) refl refl (one_need Γ _ m) no_others
      (both_join _ _ (closed_1 (P ⇒ᵗ Q) c) (same_self Q)) (no_fresh Γ Q)
      (ready_more rd _ [] x [] (derives_rule p) (ready_0 rd)) (one_premise Goes _ x i (derives_goes p))
  derives_goes (Derives.R5 {Γ = Γ} {P = P} {Q = Q} {d = d} {n = n} {x = x} {y = y} {i = i} {j = j} node f c p q) =
      enter n 75 (i + j) d (P ∷ []) (x ∷ y ∷ []) Γ Q node (omega arith) (one_formula P f) refl (no_needs Γ) no_others (closed_1 P c) (no_fresh Γ Q)
      (ready_more rd _ _ x _ (derives_rule p) (ready_more rd _ [] y [] (derives_rule q) (ready_0 rd)))
      (two_premises Goes _ _ x y i j (derives_goes p) (derives_goes q))
  derives_goes (Derives.R6 {Γ = Γ} {P = P} {Q = Q} {d = d} {n = n} {x = x} {y = y} {i = i} {j = j} node f c p q) =
      enter n 76 (i + j) d (P ∷ []) (x ∷ y ∷ []) Γ (¬ᵗ Q) node (omega arith) (one_formula P f) refl (no_needs Γ) no_others (closed_1 P c)
      (no_fresh Γ (¬ᵗ Q)) (ready_more rd _ _ x _ (derives_rule p) (ready_more rd _ [] y [] (derives_rule q) (ready_0 rd)))
      (two_premises Goes _ _ x y i j (derives_goes p) (derives_goes q))
  derives_goes (Derives.R7 {Γ = Γ} {B = B} {c = e} {d = d} {n = n} {x = x} {i = i} node f c fresh p) =
      enter n 77 i d (constantᵇ e ∷ B ⟨ constantᵇ e ⟩ ∷ []) (x ∷ []) Γ (∀ᵇ B) node (omega arith)
      (one_formula (B ⟨ constantᵇ e ⟩) f) refl (no_needs Γ) no_others
      (both_join _ _ (closed_2 (constantᵇ e) (B ⟨ constantᵇ e ⟩) (constant_closed e) c) (same_self (B ⟨ constantᵇ e ⟩)))
      (every_1 (λ a. Fresh a (∀ᵇ B ∷ Γ)) e fresh)
      (ready_more rd _ [] x [] (derives_rule p) (ready_0 rd)) (one_premise Goes _ x i (derives_goes p))
  derives_goes (Derives.R8 {Γ = Γ} {B = B} {E = E} {d = d} {n = n} {x = x} {i = i} node t c e p) =
      enter n 78 i d (∀ᵇ B ∷ E ∷ []) (x ∷ []) Γ (B ⟨ E ⟩) node (omega arith)
      (shapes_join term E [] [] (has_class_lem 4 E t) refl) refl (no_needs Γ) no_others
      (both_join _ _ (closed_2 (∀ᵇ B) E c e) (same_self (B ⟨ E ⟩))) (no_fresh Γ (B ⟨ E ⟩))
      (ready_more rd _ [] x [] (derives_rule p) (ready_0 rd)) (one_premise Goes _ x i (derives_goes p))
  derives_goes (Derives.R9 {Γ = Γ} {B = B} {E = E} {F = F} {d = d} {n = n} {x = x} {y = y} {i = i} {j = j} node f g o c e p q) =
      enter n 79 (i + j) d (B ∷ E =ᵗ F ∷ B ⟨ E ⟩ ∷ []) (x ∷ y ∷ []) Γ (B ⟨ F ⟩) node (omega arith)
      (shapes_join formula B (equation ∷ formula ∷ []) (E =ᵗ F ∷ B ⟨ E ⟩ ∷ []) (has_class_lem 5 B f) (one_formula (B ⟨ E ⟩) g))
      refl (no_needs Γ) no_others
      (both_join _ _ (indices_out o)
      (both_join _ _ (closed_2 (E =ᵗ F) (B ⟨ E ⟩) c e) (both_join _ _ (same_self (B ⟨ E ⟩)) (same_self (B ⟨ F ⟩))))) (no_fresh Γ (B ⟨ F ⟩))
      (ready_more rd _ _ x _ (derives_rule p) (ready_more rd _ [] y [] (derives_rule q) (ready_0 rd)))
      (two_premises Goes _ _ x y i j (derives_goes p) (derives_goes q))
  derives_goes (Derives.R10 {Γ = Γ} {E = E} {d = d} {n = n} node) =
      enter n 80 0 d [] [] Γ (E =ᵗ E) node (omega arith) refl refl (no_needs Γ) no_others (same_self E) (no_fresh Γ (E =ᵗ E))
      (ready_0 rd) (none_premises Goes)
