-- The rules one by one: a node that passed its tests, where parts and goal have their forms and its premises derive their sequents, derives its own.
use Rattle.std.specs.Prelude.{ℕ, suc, ◌≤◌, ◌≡◌, refl, true, length}
use Rattle.std.proofs.Common.{sym, subst}
use mathlib.Core.List.{List, [], ◌∷◌}
use Rattle.reader.specs.Words.{Reader}
use Rattle.reader.specs.Tests.{if_eq}
use Rattle.reader.specs.Trees.{Tree, atom_of, first_of, second_of, ⊥ᵗ, ◌∧ᵗ◌, ◌⇒ᵗ◌, ¬ᵗ◌, ◌=ᵗ◌}
use Rattle.reader.specs.Chains.{premises}
use Rattle.reader.specs.Shapes.{has_shape, term, formula}
use Rattle.reader.specs.Notions.{here, there, Every, ◌⟨◌⟩}
use Rattle.reader_laws.specs.Scan.{both_parts}
use Rattle.reader_laws.specs.NotionLaws.{indices_in}
use Rattle.derivation_rules.specs.Erase.{bare_parts, constantᵇ, ∀ᵇ}
use Rattle.derivation_rules.specs.Rules.{State, state_at, row}
use Rattle.derivation_meaning.specs.Derives.{DerivationNode, Derives}
use Rattle.derivation_meaning.proofs.Plain.{Plain, plain_first, plain_second, not_plain}
use Rattle.derivation_meaning.proofs.RowLaws.{Passed, of_class_lem, closed_in, Premises, premises_0, premises_1, premises_2}

-- what holds of each state of the walk: its members are within the limit, its goal is plain
pub record Within (st : State) : Type 0 where
  pub members : length st.members ≤ 2048
  pub goal : Plain st.goal

-- node n derives the state st with k nodes
abbrev pub Claim : Reader → State → ℕ → ℕ → Type 0
Claim rd st n k = Within st → Derives rd st.members st.goal st.depth n k

-- Node n passed the tests of the row of kind k and parts ps, where the goal is G; its premises, c nodes, have their claims.
pub record Good (rd : Reader) (n c d : ℕ) (Γ : List Tree) (k : ℕ) (ps : List Tree) (G : Tree) : Type 0 where
  pub kind : rd n 0 ≡ k
  pub parts_of : bare_parts rd n ≡ ps
  pub passed : Passed rd n (state_at Γ G d) (row k ps (state_at Γ G d))
  pub premises_of : Premises (Claim rd) (row k ps (state_at Γ G d)).premises (premises rd n) c

module _ (rd : Reader) (n c d : ℕ) (Γ : List Tree) (few : length Γ ≤ 2048) where
  -- another kind, other parts, another goal, that are equal
  pub as_kind : (k l : ℕ) (ps : List Tree) (G : Tree) → k ≡ l → Good rd n c d Γ k ps G → Good rd n c d Γ l ps G
  as_kind k l ps G e g = subst (λ (k : ℕ). Good rd n c d Γ k ps G) e g

  pub as_parts : (k : ℕ) (ps qs : List Tree) (G : Tree) → ps ≡ qs → Good rd n c d Γ k ps G → Good rd n c d Γ k qs G
  as_parts k ps qs G e g = subst (λ (ps : List Tree). Good rd n c d Γ k ps G) e g

  pub as_goal : (k : ℕ) (ps : List Tree) (G H : Tree) → G ≡ H → Good rd n c d Γ k ps G → Good rd n c d Γ k ps H
  as_goal k ps G H e g = subst (λ (G : Tree). Good rd n c d Γ k ps G) e g

  pub back : (G H : Tree) → G ≡ H → Derives rd Γ H d n (suc c) → Derives rd Γ G d n (suc c)
  back G H e h = subst (λ (G : Tree). Derives rd Γ G d n (suc c)) (sym e) h

  -- the node, once its premises are known
  node_of : (k : ℕ) (ps : List Tree) (G : Tree) (xs : List ℕ) → Good rd n c d Γ k ps G → premises rd n ≡ xs → DerivationNode rd n k ps xs Γ d
  node_of k ps G xs g e =
      record { kind = g.kind; parts_of = g.parts_of; premises_of = e; members = few; depth = g.passed.depth }

  -- Each rule, where parts and goal have their forms.

  pub case64 : (G : Tree) → Good rd n c d Γ 64 [] G → Derives rd Γ G d n (suc c)
  unfolding row if_eq
  case64 G g =
      let z = premises_0 (Claim rd) (premises rd n) c g.premises_of in
      rw z.1 (Derives.BR1 (node_of 64 [] G [] g z.0) (g.passed.needs G (here refl)) (g.passed.others refl))

  pub case65 : (Δ : List Tree) (G : Tree) → Plain G → Every (λ t. has_shape formula t ≡ true) Δ → Good rd n c d Γ 65 Δ G → Derives rd Γ G d n (suc c)
  unfolding row if_eq
  case65 Δ G plain shapes g =
      let z = premises_1 (Claim rd) _ (premises rd n) c g.premises_of in
      Derives.BR2 (node_of 65 Δ G (z.0 ∷ []) g z.1) (λ t m. of_class_lem 5 t (shapes t m)) (closed_in Δ g.passed.fits) g.passed.needs
      (z.2 (record { members = g.passed.limit _ (here refl); goal = plain }))

  pub case66 : (G : Tree) → Good rd n c d Γ 66 [] G → Derives rd Γ G d n (suc c)
  unfolding row if_eq
  case66 G g =
      let z = premises_0 (Claim rd) (premises rd n) c g.premises_of in
      rw z.1 (Derives.BR3 (node_of 66 [] G [] g z.0) (g.passed.needs G (here refl)))

  pub case67 : (P G : Tree) → Plain P → Plain G → has_shape formula P ≡ true → Good rd n c d Γ 67 (P ∷ []) G → Derives rd Γ G d n (suc c)
  unfolding row if_eq
  case67 P G plain goal shape g =
      let z = premises_2 (Claim rd) _ _ (premises rd n) c g.premises_of in
      rw z.7 (Derives.BR4 (node_of 67 (P ∷ []) G (z.0 ∷ z.1 ∷ []) g z.4) (of_class_lem 5 P shape) (closed_in (P ∷ []) g.passed.fits P (here refl))
      (z.5 (record { members = g.passed.limit _ (here refl); goal = plain }))
      (z.6 (record { members = g.passed.limit _ (there (here refl)); goal = goal })))

  pub case68 : Good rd n c d Γ 68 [] (¬ᵗ ⊥ᵗ) → Derives rd Γ (¬ᵗ ⊥ᵗ) d n (suc c)
  unfolding row if_eq
  case68 g =
      let z = premises_0 (Claim rd) (premises rd n) c g.premises_of in
      rw z.1 (Derives.BR6 (node_of 68 [] (¬ᵗ ⊥ᵗ) [] g z.0))

  pub case69 : (P Q : Tree) → Plain (P ⇒ᵗ Q) → Good rd n c d Γ 69 (P ⇒ᵗ Q ∷ []) Q → Derives rd Γ Q d n (suc c)
  unfolding row if_eq first_of
  case69 P Q plain g =
      let z = premises_2 (Claim rd) _ _ (premises rd n) c g.premises_of in
      rw z.7 (Derives.MP (node_of 69 (P ⇒ᵗ Q ∷ []) Q (z.0 ∷ z.1 ∷ []) g z.4)
      (closed_in (P ⇒ᵗ Q ∷ []) (both_parts _ _ g.passed.fits).0 (P ⇒ᵗ Q) (here refl))
      (z.5 (record { members = g.passed.limit _ (here refl); goal = plain_first (P ⇒ᵗ Q) plain }))
      (z.6 (record { members = g.passed.limit _ (there (here refl)); goal = plain })))

  pub case70 : (P Q : Tree) → Plain (P ∧ᵗ Q) → Good rd n c d Γ 70 [] (P ∧ᵗ Q) → Derives rd Γ (P ∧ᵗ Q) d n (suc c)
  unfolding row if_eq first_of second_of
  case70 P Q plain g =
      let z = premises_2 (Claim rd) _ _ (premises rd n) c g.premises_of in
      rw z.7 (Derives.R1 (node_of 70 [] (P ∧ᵗ Q) (z.0 ∷ z.1 ∷ []) g z.4)
      (z.5 (record { members = g.passed.limit _ (here refl); goal = plain_first (P ∧ᵗ Q) plain }))
      (z.6 (record { members = g.passed.limit _ (there (here refl)); goal = plain_second (P ∧ᵗ Q) plain })))

  pub case71 : (P Q : Tree) → Plain (P ∧ᵗ Q) → Good rd n c d Γ 71 (P ∧ᵗ Q ∷ []) P → Derives rd Γ P d n (suc c)
  unfolding row if_eq
  case71 P Q plain g =
      let z = premises_1 (Claim rd) _ (premises rd n) c g.premises_of in
      Derives.R2 (node_of 71 (P ∧ᵗ Q ∷ []) P (z.0 ∷ []) g z.1)
      (closed_in (P ∧ᵗ Q ∷ []) (both_parts _ _ g.passed.fits).0 (P ∧ᵗ Q) (here refl))
      (z.2 (record { members = g.passed.limit _ (here refl); goal = plain }))

  pub case72 : (P Q : Tree) → Plain (P ∧ᵗ Q) → Good rd n c d Γ 72 (P ∧ᵗ Q ∷ []) Q → Derives rd Γ Q d n (suc c)
  unfolding row if_eq
  case72 P Q plain g =
      let z = premises_1 (Claim rd) _ (premises rd n) c g.premises_of in
      Derives.R2' (node_of 72 (P ∧ᵗ Q ∷ []) Q (z.0 ∷ []) g z.1)
      (closed_in (P ∧ᵗ Q ∷ []) (both_parts _ _ g.passed.fits).0 (P ∧ᵗ Q) (here refl))
      (z.2 (record { members = g.passed.limit _ (here refl); goal = plain }))

  pub case73 : (P Q : Tree) → Plain (P ⇒ᵗ Q) → Good rd n c d Γ 73 [] (P ⇒ᵗ Q) → Derives rd Γ (P ⇒ᵗ Q) d n (suc c)
  unfolding row if_eq first_of second_of
  case73 P Q plain g =
      let z = premises_1 (Claim rd) _ (premises rd n) c g.premises_of in
      Derives.R3 (node_of 73 [] (P ⇒ᵗ Q) (z.0 ∷ []) g z.1)
      (z.2 (record { members = g.passed.limit _ (here refl); goal = plain_second (P ⇒ᵗ Q) plain }))

  pub case74 : (P Q : Tree) → Plain (P ⇒ᵗ Q) → Good rd n c d Γ 74 (P ⇒ᵗ Q ∷ []) Q → Derives rd Γ Q d n (suc c)
  unfolding row if_eq first_of
  case74 P Q plain g =
      let z = premises_1 (Claim rd) _ (premises rd n) c g.premises_of in
      Derives.R4 (node_of 74 (P ⇒ᵗ Q ∷ []) Q (z.0 ∷ []) g z.1)
      (closed_in (P ⇒ᵗ Q ∷ []) (both_parts _ _ g.passed.fits).0 (P ⇒ᵗ Q) (here refl)) (g.passed.needs P (here refl))
      (z.2 (record { members = g.passed.limit _ (here refl); goal = plain }))

  pub case75 : (P G : Tree) → Plain P → has_shape formula P ≡ true → Good rd n c d Γ 75 (P ∷ []) G → Derives rd Γ G d n (suc c)
  unfolding row if_eq
  case75 P G plain shape g =
      let z = premises_2 (Claim rd) _ _ (premises rd n) c g.premises_of in
      rw z.7 (Derives.R5 (node_of 75 (P ∷ []) G (z.0 ∷ z.1 ∷ []) g z.4) (of_class_lem 5 P shape) (closed_in (P ∷ []) g.passed.fits P (here refl))
      (z.5 (record { members = g.passed.limit _ (here refl); goal = plain }))
      (z.6 (record { members = g.passed.limit _ (there (here refl)); goal = not_plain P plain })))

  pub case76 : (P Q : Tree) → Plain P → has_shape formula P ≡ true → Good rd n c d Γ 76 (P ∷ []) (¬ᵗ Q) → Derives rd Γ (¬ᵗ Q) d n (suc c)
  unfolding row if_eq first_of
  case76 P Q plain shape g =
      let z = premises_2 (Claim rd) _ _ (premises rd n) c g.premises_of in
      rw z.7 (Derives.R6 (node_of 76 (P ∷ []) (¬ᵗ Q) (z.0 ∷ z.1 ∷ []) g z.4) (of_class_lem 5 P shape) (closed_in (P ∷ []) g.passed.fits P (here refl))
      (z.5 (record { members = g.passed.limit _ (here refl); goal = plain }))
      (z.6 (record { members = g.passed.limit _ (there (here refl)); goal = not_plain P plain })))

  pub case77 : (e : ℕ) (B : Tree) → Plain (B ⟨ constantᵇ e ⟩) → has_shape formula (B ⟨ constantᵇ e ⟩) ≡ true →
      Good rd n c d Γ 77 (constantᵇ e ∷ B ⟨ constantᵇ e ⟩ ∷ []) (∀ᵇ B) → Derives rd Γ (∀ᵇ B) d n (suc c)
  unfolding row if_eq atom_of
  case77 e B plain shape g =
      let z = premises_1 (Claim rd) _ (premises rd n) c g.premises_of in
      Derives.R7 (node_of 77 (constantᵇ e ∷ B ⟨ constantᵇ e ⟩ ∷ []) (∀ᵇ B) (z.0 ∷ []) g z.1) (of_class_lem 5 _ shape)
      (closed_in (constantᵇ e ∷ B ⟨ constantᵇ e ⟩ ∷ []) (both_parts _ _ g.passed.fits).0 _ (there (here refl))) (g.passed.fresh e (here refl))
      (z.2 (record { members = g.passed.limit _ (here refl); goal = plain }))

  pub case78 : (B E : Tree) → Plain (∀ᵇ B) → has_shape term E ≡ true → Good rd n c d Γ 78 (∀ᵇ B ∷ E ∷ []) (B ⟨ E ⟩) → Derives rd Γ (B ⟨ E ⟩) d n (suc c)
  unfolding row if_eq
  case78 B E plain shape g =
      let z = premises_1 (Claim rd) _ (premises rd n) c g.premises_of in
      let closed = closed_in (∀ᵇ B ∷ E ∷ []) (both_parts _ _ g.passed.fits).0 in
      Derives.R8 (node_of 78 (∀ᵇ B ∷ E ∷ []) (B ⟨ E ⟩) (z.0 ∷ []) g z.1) (of_class_lem 4 E shape) (closed (∀ᵇ B) (here refl)) (closed E (there (here refl)))
      (z.2 (record { members = g.passed.limit _ (here refl); goal = plain }))

  pub case79 : (B E F : Tree) → Plain (E =ᵗ F) → Plain (B ⟨ E ⟩) → has_shape formula B ≡ true → has_shape formula (B ⟨ E ⟩) ≡ true →
      Good rd n c d Γ 79 (B ∷ E =ᵗ F ∷ B ⟨ E ⟩ ∷ []) (B ⟨ F ⟩) → Derives rd Γ (B ⟨ F ⟩) d n (suc c)
  unfolding row if_eq
  case79 B E F equal plain shape formed g =
      let z = premises_2 (Claim rd) _ _ (premises rd n) c g.premises_of in
      let fits = both_parts _ _ g.passed.fits in
      let closed = closed_in (E =ᵗ F ∷ B ⟨ E ⟩ ∷ []) (both_parts _ _ fits.1).0 in
      rw z.7 (Derives.R9 (node_of 79 (B ∷ E =ᵗ F ∷ B ⟨ E ⟩ ∷ []) (B ⟨ F ⟩) (z.0 ∷ z.1 ∷ []) g z.4) (of_class_lem 5 B shape) (of_class_lem 5 _ formed)
      (indices_in 1 B fits.0) (closed (E =ᵗ F) (here refl)) (closed (B ⟨ E ⟩) (there (here refl)))
      (z.5 (record { members = g.passed.limit _ (here refl); goal = equal }))
      (z.6 (record { members = g.passed.limit _ (there (here refl)); goal = plain })))

  pub case80 : (E : Tree) → Good rd n c d Γ 80 [] (E =ᵗ E) → Derives rd Γ (E =ᵗ E) d n (suc c)
  unfolding row if_eq
  case80 E g =
      let z = premises_0 (Claim rd) (premises rd n) c g.premises_of in
      rw z.1 (Derives.R10 (node_of 80 [] (E =ᵗ E) [] g z.0))
