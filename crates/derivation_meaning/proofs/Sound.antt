-- From an accepting walk to a derivation: what the tests of a node say of the forms of its parts and goal, rule by rule, and the selection by its kind.
use Rattle.std.specs.Prelude.{ℕ, suc, ◌+◌, ◌≤◌, ◌≡◌, refl, Bool, true, false, ◌⊎◌, eqb, length}
use Rattle.std.proofs.Common.{sym, ◌∙◌, inl, inr, eqb-true}
use Rattle.std.proofs.Math.Path.{ap, subst}
use mathlib.Core.List.{List, [], ◌∷◌}
use Rattle.std.proofs.lemmas.Bool.{false≢true}
use Rattle.std.proofs.Math.Logic.{⊎_elim}
use native.Mathlib.Omega.{arith}
use Rattle.reader.specs.Words.{Reader}
use Rattle.reader.specs.Tests.{both, every, if_eq}
use Rattle.reader.specs.Trees.{Tree, atom_of, first_of, second_of, ⊥ᵗ, ◌∧ᵗ◌, ◌⇒ᵗ◌, ¬ᵗ◌, ◌=ᵗ◌}
use Rattle.reader.specs.Chains.{premises}
use Rattle.reader.specs.Notions.{◌∈◌, here, there, ◌⟨◌⟩}
use Rattle.reader.specs.Shapes.{Shape, negated, has_shape, have_shapes, term, formula, constant, conjunction, implication, universal, equation}
use Rattle.reader.specs.TreeLaws.{same_equal}
use Rattle.reader.specs.WalkLaws.{Inherited}
use Rattle.reader_laws.specs.Scan.{both_parts}
use Rattle.derivation_rules.specs.Erase.{bare_parts, constantᵇ, ∀ᵇ}
use Rattle.derivation_rules.specs.Rules.{Row, negation, falsity, row}
use Rattle.derivation_rules.specs.Check.{row_of, node_fault, premise_state}
use Rattle.derivation_meaning.specs.Derives.{Derives}
use Rattle.derivation_meaning.proofs.Plain.{Plain, plain_first, plain_constant, plain_false, plain_and, plain_implies, plain_not, plain_all}
use Rattle.derivation_meaning.proofs.Plain.{plain_equal, parts_plain}
use Rattle.derivation_meaning.proofs.RowLaws.{no_fault, of_kind_lem, shapes_0, shapes_1, shapes_2, shapes_3, shapes_all, goal_in, each_premise}
use Rattle.derivation_meaning.proofs.Cases.{Claim, Good, as_kind, as_parts, as_goal, back}
use Rattle.derivation_meaning.proofs.Cases.{case64, case65, case66, case67, case68, case69, case70, case71, case72}
use Rattle.derivation_meaning.proofs.Cases.{case73, case74, case75, case76, case77, case78, case79, case80}

module _ (rd : Reader) (n c d : ℕ) (Γ : List Tree) (few : length Γ ≤ 2048) where
  one_part : (s : Shape) → have_shapes (s ∷ []) (bare_parts rd n) ≡ true → (t : Tree) × (bare_parts rd n ≡ t ∷ []) × (has_shape s t ≡ true) × Plain t
  one_part s h =
      let p = shapes_1 s (bare_parts rd n) h in
      (p.0, p.1, p.2, parts_plain rd n p.0 (subst (λ (ps : List Tree). p.0 ∈ ps) (sym p.1) (here refl)))

  -- the goal is P⇒Q's Q, P∧Q's P or Q
  part69 : (P Q G : Tree) → Plain (P ⇒ᵗ Q) → bare_parts rd n ≡ P ⇒ᵗ Q ∷ [] → Good rd n c d Γ 69 (bare_parts rd n) G → Derives rd Γ G d n (suc c)
  unfolding row if_eq second_of
  part69 P Q G plain e g =
      let h = as_parts rd n c d Γ few 69 (bare_parts rd n) (P ⇒ᵗ Q ∷ []) G e g in
      let q : Q ≡ G = same_equal Q G (both_parts _ _ h.passed.fits).1 in
      back rd n c d Γ few G Q (sym q) (case69 rd n c d Γ few P Q plain (as_goal rd n c d Γ few 69 (P ⇒ᵗ Q ∷ []) G Q (sym q) h))

  part71 : (P Q G : Tree) → Plain (P ∧ᵗ Q) → bare_parts rd n ≡ P ∧ᵗ Q ∷ [] → Good rd n c d Γ 71 (bare_parts rd n) G → Derives rd Γ G d n (suc c)
  unfolding row if_eq first_of
  part71 P Q G plain e g =
      let h = as_parts rd n c d Γ few 71 (bare_parts rd n) (P ∧ᵗ Q ∷ []) G e g in
      let q : P ≡ G = same_equal P G (both_parts _ _ h.passed.fits).1 in
      back rd n c d Γ few G P (sym q) (case71 rd n c d Γ few P Q plain (as_goal rd n c d Γ few 71 (P ∧ᵗ Q ∷ []) G P (sym q) h))

  part72 : (P Q G : Tree) → Plain (P ∧ᵗ Q) → bare_parts rd n ≡ P ∧ᵗ Q ∷ [] → Good rd n c d Γ 72 (bare_parts rd n) G → Derives rd Γ G d n (suc c)
  unfolding row if_eq second_of
  part72 P Q G plain e g =
      let h = as_parts rd n c d Γ few 72 (bare_parts rd n) (P ∧ᵗ Q ∷ []) G e g in
      let q : Q ≡ G = same_equal Q G (both_parts _ _ h.passed.fits).1 in
      back rd n c d Γ few G Q (sym q) (case72 rd n c d Γ few P Q plain (as_goal rd n c d Γ few 72 (P ∧ᵗ Q ∷ []) G Q (sym q) h))

  part74 : (P Q G : Tree) → Plain (P ⇒ᵗ Q) → bare_parts rd n ≡ P ⇒ᵗ Q ∷ [] → Good rd n c d Γ 74 (bare_parts rd n) G → Derives rd Γ G d n (suc c)
  unfolding row if_eq second_of
  part74 P Q G plain e g =
      let h = as_parts rd n c d Γ few 74 (bare_parts rd n) (P ⇒ᵗ Q ∷ []) G e g in
      let q : Q ≡ G = same_equal Q G (both_parts _ _ h.passed.fits).1 in
      back rd n c d Γ few G Q (sym q) (case74 rd n c d Γ few P Q plain (as_goal rd n c d Γ few 74 (P ⇒ᵗ Q ∷ []) G Q (sym q) h))

  -- the second part is B with the first in place of index 0
  part77 : (e : ℕ) (B u : Tree) → Plain u → has_shape formula u ≡ true → bare_parts rd n ≡ constantᵇ e ∷ u ∷ [] →
      Good rd n c d Γ 77 (bare_parts rd n) (∀ᵇ B) → Derives rd Γ (∀ᵇ B) d n (suc c)
  unfolding row if_eq second_of
  part77 e B u plain shape p g =
      let h = as_parts rd n c d Γ few 77 (bare_parts rd n) (constantᵇ e ∷ u ∷ []) (∀ᵇ B) p g in
      let q : u ≡ B ⟨ constantᵇ e ⟩ = same_equal u (B ⟨ constantᵇ e ⟩) (both_parts _ _ h.passed.fits).1 in
      case77 rd n c d Γ few e B (subst Plain q plain) (subst (λ (t : Tree). has_shape formula t ≡ true) q shape)
      (as_parts rd n c d Γ few 77 (constantᵇ e ∷ u ∷ []) (constantᵇ e ∷ B ⟨ constantᵇ e ⟩ ∷ []) (∀ᵇ B) (ap (λ (t : Tree). constantᵇ e ∷ t ∷ []) q) h)

  -- the goal is B with the second part in place of index 0
  part78 : (B E G : Tree) → Plain (∀ᵇ B) → has_shape term E ≡ true → bare_parts rd n ≡ ∀ᵇ B ∷ E ∷ [] →
      Good rd n c d Γ 78 (bare_parts rd n) G → Derives rd Γ G d n (suc c)
  unfolding row if_eq second_of
  part78 B E G plain shape p g =
      let h = as_parts rd n c d Γ few 78 (bare_parts rd n) (∀ᵇ B ∷ E ∷ []) G p g in
      let q : G ≡ B ⟨ E ⟩ = same_equal G (B ⟨ E ⟩) (both_parts _ _ h.passed.fits).1 in
      back rd n c d Γ few G (B ⟨ E ⟩) q (case78 rd n c d Γ few B E plain shape (as_goal rd n c d Γ few 78 (∀ᵇ B ∷ E ∷ []) G (B ⟨ E ⟩) q h))

  -- the third part is B with E in place of index 0, the goal B with F
  part79 : (B E F u G : Tree) → Plain (E =ᵗ F) → Plain u → has_shape formula B ≡ true → has_shape formula u ≡ true →
      bare_parts rd n ≡ B ∷ E =ᵗ F ∷ u ∷ [] → Good rd n c d Γ 79 (bare_parts rd n) G → Derives rd Γ G d n (suc c)
  unfolding row if_eq first_of second_of
  part79 B E F u G equal plain shape formed p g =
      let h = as_parts rd n c d Γ few 79 (bare_parts rd n) (B ∷ E =ᵗ F ∷ u ∷ []) G p g in
      let fits = both_parts _ _ (both_parts _ _ (both_parts _ _ h.passed.fits).1).1 in
      let q : u ≡ B ⟨ E ⟩ = same_equal u (B ⟨ E ⟩) fits.0 in
      let r : G ≡ B ⟨ F ⟩ = same_equal G (B ⟨ F ⟩) fits.1 in
      back rd n c d Γ few G (B ⟨ F ⟩) r (case79 rd n c d Γ few B E F equal
      (subst Plain q plain) shape (subst (λ (t : Tree). has_shape formula t ≡ true) q formed)
      (as_goal rd n c d Γ few 79 (B ∷ E =ᵗ F ∷ B ⟨ E ⟩ ∷ []) G (B ⟨ F ⟩) r
      (as_parts rd n c d Γ few 79 (B ∷ E =ᵗ F ∷ u ∷ []) (B ∷ E =ᵗ F ∷ B ⟨ E ⟩ ∷ []) G (ap (λ (t : Tree). B ∷ E =ᵗ F ∷ t ∷ []) q) h)))

  -- the goal is E=F, and E is F
  goal80 : (E F : Tree) → Good rd n c d Γ 80 [] (E =ᵗ F) → Derives rd Γ (E =ᵗ F) d n (suc c)
  unfolding row if_eq first_of second_of every both
  goal80 E F g =
      let q : E =ᵗ F ≡ E =ᵗ E = ap (λ (t : Tree). E =ᵗ t) (sym (same_equal E F g.passed.fits)) in
      back rd n c d Γ few (E =ᵗ F) (E =ᵗ E) q (case80 rd n c d Γ few E (as_goal rd n c d Γ few 80 [] (E =ᵗ F) (E =ᵗ E) q g))

  module _ (G : Tree) (goal : Plain G) where
    at64 : Good rd n c d Γ 64 (bare_parts rd n) G → Derives rd Γ G d n (suc c)
    unfolding row if_eq
    at64 g = case64 rd n c d Γ few G (as_parts rd n c d Γ few 64 (bare_parts rd n) [] G (shapes_0 _ g.passed.shapes) g)

    at65 : Good rd n c d Γ 65 (bare_parts rd n) G → Derives rd Γ G d n (suc c)
    unfolding row if_eq
    at65 g = case65 rd n c d Γ few (bare_parts rd n) G goal (shapes_all formula (bare_parts rd n) g.passed.shapes) g

    at66 : Good rd n c d Γ 66 (bare_parts rd n) G → Derives rd Γ G d n (suc c)
    unfolding row if_eq
    at66 g = case66 rd n c d Γ few G (as_parts rd n c d Γ few 66 (bare_parts rd n) [] G (shapes_0 _ g.passed.shapes) g)

    at67 : Good rd n c d Γ 67 (bare_parts rd n) G → Derives rd Γ G d n (suc c)
    unfolding row if_eq
    at67 g =
        let s = one_part formula g.passed.shapes in
        case67 rd n c d Γ few s.0 G s.3 goal s.2 (as_parts rd n c d Γ few 67 (bare_parts rd n) (s.0 ∷ []) G s.1 g)

    at68 : Good rd n c d Γ 68 (bare_parts rd n) G → Derives rd Γ G d n (suc c)
    unfolding row if_eq has_shape
    at68 g =
        let f = both_parts _ _ (goal_in (negated falsity) G g.passed.goal_shapes) in
        let e : G ≡ ¬ᵗ ⊥ᵗ =
        plain_not G goal (eqb-true _ _ f.0) ∙ ap (λ (t : Tree). ¬ᵗ t) (plain_false (first_of G) (plain_first G goal) (eqb-true _ _ f.1)) in
        back rd n c d Γ few G (¬ᵗ ⊥ᵗ) e (case68 rd n c d Γ few
        (as_goal rd n c d Γ few 68 [] G (¬ᵗ ⊥ᵗ) e (as_parts rd n c d Γ few 68 (bare_parts rd n) [] G (shapes_0 _ g.passed.shapes) g)))

    at69 : Good rd n c d Γ 69 (bare_parts rd n) G → Derives rd Γ G d n (suc c)
    unfolding row if_eq
    at69 g =
        let s = one_part implication g.passed.shapes in
        let e = plain_implies s.0 s.3 (of_kind_lem 17 s.0 s.2) in
        part69 (first_of s.0) (second_of s.0) G (subst Plain e s.3) (s.1 ∙ ap (λ (t : Tree). t ∷ []) e) g

    at70 : Good rd n c d Γ 70 (bare_parts rd n) G → Derives rd Γ G d n (suc c)
    unfolding row if_eq
    at70 g =
        let e = plain_and G goal (of_kind_lem 16 G (goal_in conjunction G g.passed.goal_shapes)) in
        back rd n c d Γ few G _ e (case70 rd n c d Γ few (first_of G) (second_of G) (subst Plain e goal)
        (as_goal rd n c d Γ few 70 [] G _ e (as_parts rd n c d Γ few 70 (bare_parts rd n) [] G (shapes_0 _ g.passed.shapes) g)))

    at71 : Good rd n c d Γ 71 (bare_parts rd n) G → Derives rd Γ G d n (suc c)
    unfolding row if_eq
    at71 g =
        let s = one_part conjunction g.passed.shapes in
        let e = plain_and s.0 s.3 (of_kind_lem 16 s.0 s.2) in
        part71 (first_of s.0) (second_of s.0) G (subst Plain e s.3) (s.1 ∙ ap (λ (t : Tree). t ∷ []) e) g

    at72 : Good rd n c d Γ 72 (bare_parts rd n) G → Derives rd Γ G d n (suc c)
    unfolding row if_eq
    at72 g =
        let s = one_part conjunction g.passed.shapes in
        let e = plain_and s.0 s.3 (of_kind_lem 16 s.0 s.2) in
        part72 (first_of s.0) (second_of s.0) G (subst Plain e s.3) (s.1 ∙ ap (λ (t : Tree). t ∷ []) e) g

    at73 : Good rd n c d Γ 73 (bare_parts rd n) G → Derives rd Γ G d n (suc c)
    unfolding row if_eq
    at73 g =
        let e = plain_implies G goal (of_kind_lem 17 G (goal_in implication G g.passed.goal_shapes)) in
        back rd n c d Γ few G _ e (case73 rd n c d Γ few (first_of G) (second_of G) (subst Plain e goal)
        (as_goal rd n c d Γ few 73 [] G _ e (as_parts rd n c d Γ few 73 (bare_parts rd n) [] G (shapes_0 _ g.passed.shapes) g)))

    at74 : Good rd n c d Γ 74 (bare_parts rd n) G → Derives rd Γ G d n (suc c)
    unfolding row if_eq
    at74 g =
        let s = one_part implication g.passed.shapes in
        let e = plain_implies s.0 s.3 (of_kind_lem 17 s.0 s.2) in
        part74 (first_of s.0) (second_of s.0) G (subst Plain e s.3) (s.1 ∙ ap (λ (t : Tree). t ∷ []) e) g

    at75 : Good rd n c d Γ 75 (bare_parts rd n) G → Derives rd Γ G d n (suc c)
    unfolding row if_eq
    at75 g =
        let s = one_part formula g.passed.shapes in
        case75 rd n c d Γ few s.0 G s.3 s.2 (as_parts rd n c d Γ few 75 (bare_parts rd n) (s.0 ∷ []) G s.1 g)

    at76 : Good rd n c d Γ 76 (bare_parts rd n) G → Derives rd Γ G d n (suc c)
    unfolding row if_eq
    at76 g =
        let s = one_part formula g.passed.shapes in
        let e = plain_not G goal (of_kind_lem 18 G (goal_in negation G g.passed.goal_shapes)) in
        back rd n c d Γ few G _ e (case76 rd n c d Γ few s.0 (first_of G) s.3 s.2
        (as_goal rd n c d Γ few 76 (s.0 ∷ []) G _ e (as_parts rd n c d Γ few 76 (bare_parts rd n) (s.0 ∷ []) G s.1 g)))

    at77 : Good rd n c d Γ 77 (bare_parts rd n) G → Derives rd Γ G d n (suc c)
    unfolding row if_eq
    at77 g =
        let s = shapes_2 constant formula (bare_parts rd n) g.passed.shapes in
        let m : s.0 ∈ bare_parts rd n = subst (λ (ps : List Tree). s.0 ∈ ps) (sym s.2) (here refl) in
        let l : s.1 ∈ bare_parts rd n = subst (λ (ps : List Tree). s.1 ∈ ps) (sym s.2) (there (here refl)) in
        let e = plain_constant s.0 (parts_plain rd n s.0 m) (of_kind_lem 7 s.0 s.3) in
        let q = plain_all G goal (of_kind_lem 19 G (goal_in universal G g.passed.goal_shapes)) in
        back rd n c d Γ few G _ q (part77 (atom_of s.0) (second_of G) s.1 (parts_plain rd n s.1 l) s.4 (s.2 ∙ ap (λ (t : Tree). t ∷ s.1 ∷ []) e)
        (as_goal rd n c d Γ few 77 (bare_parts rd n) G _ q g))

    at78 : Good rd n c d Γ 78 (bare_parts rd n) G → Derives rd Γ G d n (suc c)
    unfolding row if_eq
    at78 g =
        let s = shapes_2 universal term (bare_parts rd n) g.passed.shapes in
        let m : s.0 ∈ bare_parts rd n = subst (λ (ps : List Tree). s.0 ∈ ps) (sym s.2) (here refl) in
        let p = parts_plain rd n s.0 m in
        let e = plain_all s.0 p (of_kind_lem 19 s.0 s.3) in
        part78 (second_of s.0) s.1 G (subst Plain e p) s.4 (s.2 ∙ ap (λ (t : Tree). t ∷ s.1 ∷ []) e) g

    at79 : Good rd n c d Γ 79 (bare_parts rd n) G → Derives rd Γ G d n (suc c)
    unfolding row if_eq
    at79 g =
        let s = shapes_3 formula equation formula (bare_parts rd n) g.passed.shapes in
        let m : s.1 ∈ bare_parts rd n = subst (λ (ps : List Tree). s.1 ∈ ps) (sym s.3) (there (here refl)) in
        let l : s.2 ∈ bare_parts rd n = subst (λ (ps : List Tree). s.2 ∈ ps) (sym s.3) (there (there (here refl))) in
        let p = parts_plain rd n s.1 m in
        let e = plain_equal s.1 p (of_kind_lem 20 s.1 s.5) in
        part79 s.0 (first_of s.1) (second_of s.1) s.2 G (subst Plain e p) (parts_plain rd n s.2 l) s.4 s.6
        (s.3 ∙ ap (λ (t : Tree). s.0 ∷ t ∷ s.2 ∷ []) e) g

    at80 : Good rd n c d Γ 80 (bare_parts rd n) G → Derives rd Γ G d n (suc c)
    unfolding row if_eq
    at80 g =
        let e = plain_equal G goal (of_kind_lem 20 G (goal_in equation G g.passed.goal_shapes)) in
        back rd n c d Γ few G _ e (goal80 (first_of G) (second_of G)
        (as_goal rd n c d Γ few 80 [] G _ e (as_parts rd n c d Γ few 80 (bare_parts rd n) [] G (shapes_0 _ g.passed.shapes) g)))

-- selection by kind that fits: the kind is l, or the rest fits
pick : (k l : ℕ) (x y : Row) → (if_eq k l x y).fits ≡ true → (k ≡ l) ⊎ (y.fits ≡ true)
unfolding if_eq
pick k l x y h = go (eqb k l) refl h
  where
    go : (b : Bool) → eqb k l ≡ b → ◌≡◌ {A = Bool} (elim b as (λ b. Row) [ true ↦ x | false ↦ y ]).fits true → (k ≡ l) ⊎ (y.fits ≡ true)
    go true e h = inl (eqb-true k l e)
    go false e h = inr h

module _ (rd : Reader) where
  -- a node that passed its tests, by its kind
  rule : (n c d : ℕ) (Γ : List Tree) (G : Tree) → length Γ ≤ 2048 → Plain G → Good rd n c d Γ (rd n 0) (bare_parts rd n) G → Derives rd Γ G d n (suc c)
  unfolding row
  rule n c d Γ G few goal g =
      ⊎_elim (λ e. at64 rd n c d Γ few G goal (as_kind rd n c d Γ few _ 64 _ G e g)) (λ h.
      ⊎_elim (λ e. at65 rd n c d Γ few G goal (as_kind rd n c d Γ few _ 65 _ G e g)) (λ h.
      ⊎_elim (λ e. at66 rd n c d Γ few G goal (as_kind rd n c d Γ few _ 66 _ G e g)) (λ h.
      ⊎_elim (λ e. at67 rd n c d Γ few G goal (as_kind rd n c d Γ few _ 67 _ G e g)) (λ h.
      ⊎_elim (λ e. at68 rd n c d Γ few G goal (as_kind rd n c d Γ few _ 68 _ G e g)) (λ h.
      ⊎_elim (λ e. at69 rd n c d Γ few G goal (as_kind rd n c d Γ few _ 69 _ G e g)) (λ h.
      ⊎_elim (λ e. at70 rd n c d Γ few G goal (as_kind rd n c d Γ few _ 70 _ G e g)) (λ h.
      ⊎_elim (λ e. at71 rd n c d Γ few G goal (as_kind rd n c d Γ few _ 71 _ G e g)) (λ h.
      ⊎_elim (λ e. at72 rd n c d Γ few G goal (as_kind rd n c d Γ few _ 72 _ G e g)) (λ h.
      ⊎_elim (λ e. at73 rd n c d Γ few G goal (as_kind rd n c d Γ few _ 73 _ G e g)) (λ h.
      ⊎_elim (λ e. at74 rd n c d Γ few G goal (as_kind rd n c d Γ few _ 74 _ G e g)) (λ h.
      ⊎_elim (λ e. at75 rd n c d Γ few G goal (as_kind rd n c d Γ few _ 75 _ G e g)) (λ h.
      ⊎_elim (λ e. at76 rd n c d Γ few G goal (as_kind rd n c d Γ few _ 76 _ G e g)) (λ h.
      ⊎_elim (λ e. at77 rd n c d Γ few G goal (as_kind rd n c d Γ few _ 77 _ G e g)) (λ h.
      ⊎_elim (λ e. at78 rd n c d Γ few G goal (as_kind rd n c d Γ few _ 78 _ G e g)) (λ h.
      ⊎_elim (λ e. at79 rd n c d Γ few G goal (as_kind rd n c d Γ few _ 79 _ G e g)) (λ h.
      ⊎_elim (λ e. at80 rd n c d Γ few G goal (as_kind rd n c d Γ few _ 80 _ G e g)) (λ h. absurd (false≢true h))
      (pick _ _ _ _ h)) (pick _ _ _ _ h)) (pick _ _ _ _ h)) (pick _ _ _ _ h)) (pick _ _ _ _ h)) (pick _ _ _ _ h)) (pick _ _ _ _ h)) (pick _ _ _ _ h))
      (pick _ _ _ _ h)) (pick _ _ _ _ h)) (pick _ _ _ _ h)) (pick _ _ _ _ h)) (pick _ _ _ _ h)) (pick _ _ _ _ h)) (pick _ _ _ _ h)) (pick _ _ _ _ h))
      (pick _ _ _ _ g.passed.fits)

  -- what the walk asks of a claim about nodes
  pub closed : Inherited rd (node_fault rd) (premise_state rd) (Claim rd)
  unfolding node_fault premise_state row_of
  closed st n k pos h each within =
      let passed = no_fault rd n st (row_of rd st n) h in
      rule n k st.depth st.members st.goal within.members within.goal (record {
        kind = refl;
        parts_of = refl;
        passed = passed;
        premises_of = each_premise (Claim rd) (premise_state rd) st n (row_of rd st n).premises (premises rd n) 0 k passed.number
            (λ j. let z : 0 + j ≡ j = omega arith in ap (premise_state rd st n) z) each;
      })
