-- What the rules of a proof give in the calculus of figure 3, where the records are well typed.
use Rattle.std.specs.Prelude.{ℕ, ◌≡◌, refl, List, [], ◌∷◌, map}
use Rattle.std.proofs.Common.{sym, arith}
use Rattle.std.proofs.Math.Path.{subst}
use Rattle.reader.specs.Words.{Reader}
use Rattle.reader.specs.Tests.{if_eq, if_lt}
use Rattle.reader.specs.Kinds.{class}
use Rattle.reader.specs.Trees.{Tree, tree, kind_of, ◌∧ᵗ◌, ◌⇒ᵗ◌, ¬ᵗ◌, ◌=ᵗ◌}
use Rattle.reader.specs.Chains.{parts}
use Rattle.reader.specs.Variables.{binders}
use Rattle.reader.specs.Typing.{type_of}
use Rattle.reader.specs.Members.{◌▹◌}
use Rattle.reader.specs.Notions.{◌∈◌, here, there, Every, IsType, IsTerm, IsFormula, IndicesBelow, TypesBelow, Closed}
use Rattle.reader_laws.specs.NotionLaws.{every_0, every_more}
use Rattle.proof_meaning.specs.Proves.{ProofNode, Proves}
use Rattle.proof_meaning.specs.TypedTrees.{TypeOver, HasType, TypedFormula, TypedRecords}
use Rattle.proof_meaning.specs.LL.{ClosedFormula, Member, Sequent, LL}

none_in : {A C : Type 0} {x : A} → x ∈ [] → C
none_in m = elim m [ ]

-- what holds of each member of Γ and of P
pub every_last : (Q : Tree → Type 0) (Γ : List Tree) (P : Tree) → Every Q Γ → Q P → Every Q (Γ ▹ P)
every_last Q [] P h p = every_more Q P [] p (every_0 Q)
every_last Q (t ∷ Γ) P h p = every_more Q t (Γ ▹ P) (h t (here refl)) (every_last Q Γ P (λ u m. h u (there m)) p)

-- Closedness of a formula's parts.

under_not : {P : Tree} → Closed (¬ᵗ P) → Closed P
under_not c = one c.no_index c.no_type_variable
  where
    one : {P : Tree} → IndicesBelow 0 (¬ᵗ P) → TypesBelow 0 (¬ᵗ P) → Closed P
    one (IndicesBelow.inside own p q r) (TypesBelow.inside var s t u) = record { no_index = p; no_type_variable = s }

over_not : {P : Tree} → Closed P → Closed (¬ᵗ P)
over_not c = record {
  no_index = IndicesBelow.inside (λ (e : ◌≡◌ {A = ℕ} 18 9). absurd (omega arith)) c.no_index IndicesBelow.none IndicesBelow.none;
  no_type_variable = TypesBelow.inside (λ (e : ◌≡◌ {A = ℕ} 18 6). absurd (omega arith)) c.no_type_variable TypesBelow.none TypesBelow.none;
}

equation_closed : {t u : Tree} → Closed t → Closed u → Closed (t =ᵗ u)
unfolding binders
equation_closed c d = record {
  no_index = IndicesBelow.inside (λ (e : ◌≡◌ {A = ℕ} 20 9). absurd (omega arith)) c.no_index d.no_index IndicesBelow.none;
  no_type_variable = TypesBelow.inside (λ (e : ◌≡◌ {A = ℕ} 20 6). absurd (omega arith)) c.no_type_variable d.no_type_variable TypesBelow.none;
}

module _ {rd : Reader} where
  -- Closed formulas from closed formulas.

  pub negation_inside : {P : Tree} → ClosedFormula rd (¬ᵗ P) → ClosedFormula rd P
  negation_inside c = record { formula = one c.formula; closed = under_not c.closed }
    where
      one : {P : Tree} → TypedFormula rd (¬ᵗ P) → TypedFormula rd P
      one (TypedFormula.negation f) = f

  negated : {P : Tree} → ClosedFormula rd P → ClosedFormula rd (¬ᵗ P)
  negated c = record { formula = TypedFormula.negation c.formula; closed = over_not c.closed }

  pub conjunction_inside : {P Q : Tree} → ClosedFormula rd (P ∧ᵗ Q) → ClosedFormula rd P × ClosedFormula rd Q
  unfolding binders
  conjunction_inside c = both c.formula c.closed.no_index c.closed.no_type_variable
    where
      both : {P Q : Tree} → TypedFormula rd (P ∧ᵗ Q) → IndicesBelow 0 (P ∧ᵗ Q) → TypesBelow 0 (P ∧ᵗ Q) → ClosedFormula rd P × ClosedFormula rd Q
      both (TypedFormula.conjunction f g) (IndicesBelow.inside own p q r) (TypesBelow.inside var s t u) = (
        record { formula = f; closed = record { no_index = p; no_type_variable = s } },
        record { formula = g; closed = record { no_index = q; no_type_variable = t } },
      )

  implication_inside : {P Q : Tree} → ClosedFormula rd (P ⇒ᵗ Q) → ClosedFormula rd P × ClosedFormula rd Q
  unfolding binders
  implication_inside c = both c.formula c.closed.no_index c.closed.no_type_variable
    where
      both : {P Q : Tree} → TypedFormula rd (P ⇒ᵗ Q) → IndicesBelow 0 (P ⇒ᵗ Q) → TypesBelow 0 (P ⇒ᵗ Q) → ClosedFormula rd P × ClosedFormula rd Q
      both (TypedFormula.implication f g) (IndicesBelow.inside own p q r) (TypesBelow.inside var s t u) = (
        record { formula = f; closed = record { no_index = p; no_type_variable = s } },
        record { formula = g; closed = record { no_index = q; no_type_variable = t } },
      )

  -- A member with a sign of its own is a closed formula.

  pub not_member : {P : Tree} → Member rd (¬ᵗ P) → ClosedFormula rd (¬ᵗ P)
  not_member (Member.formula c) = c

  and_member : {P Q : Tree} → Member rd (P ∧ᵗ Q) → ClosedFormula rd (P ∧ᵗ Q)
  and_member (Member.formula c) = c

  implies_member : {P Q : Tree} → Member rd (P ⇒ᵗ Q) → ClosedFormula rd (P ⇒ᵗ Q)
  implies_member (Member.formula c) = c

  -- Γ and one formula more
  pub and_one : {P : Tree} (Γ : List Tree) → Sequent rd Γ → ClosedFormula rd P → Sequent rd (Γ ▹ P)
  and_one Γ s c = every_last (Member rd) Γ _ s (Member.formula c)

-- a derivation is of a sequent
pub LL-sequent : {rd : Reader} {Γ : List Tree} → LL rd Γ → Sequent rd Γ
LL-sequent (LL.⊥ s m) = s
LL-sequent (LL.¬⊤ s m) = s
LL-sequent (LL.Ax s m l) = s
LL-sequent (LL.≠ s m) = s
LL-sequent (LL.Sym s m l) = s
LL-sequent (LL.Cut s c d e) = s
LL-sequent (LL.¬¬ s m d) = s
LL-sequent (LL.∧ᴸ s m d) = s
LL-sequent (LL.¬⇒ s m d) = s
LL-sequent (LL.⇒ s m d e) = s
LL-sequent (LL.¬∧ s m d e) = s
LL-sequent (LL.¬∀ s m c f d) = s
LL-sequent (LL.∀ᴸ s m t c d) = s
LL-sequent (LL.∀type s m ts cs d) = s
LL-sequent (LL.Subst s m f o b t u c v d e) = s

module _ {rd : Reader} (w : TypedRecords rd) where
  -- what holds of a tree among records, where it holds of each record of class c
  among : (c : ℕ) (C : Tree → Type 0) → ((i : ℕ) → class (kind_of (tree rd i)) ≡ c → C (tree rd i)) →
      (is : List ℕ) (t : Tree) → t ∈ map (tree rd) is → class (kind_of t) ≡ c → C t
  among c C f [] t m h = none_in m
  among c C f (i ∷ is) t (here e) h = subst C (sym e) (f i (subst (λ (u : Tree). class (kind_of u) ≡ c) e h))
  among c C f (i ∷ is) t (there m) h = among c C f is t m h

  module _ {n k : ℕ} {ps : List Tree} {xs : List ℕ} (node : ProofNode rd n k ps xs) (t : Tree) (m : t ∈ ps) where
    inside : t ∈ map (tree rd) (parts rd n)
    inside = subst (λ (us : List Tree). t ∈ us) (sym node.parts_are) m

    -- a part of a node: as a type, a term, a formula, a closed formula
    type_part : IsType t → TypeOver rd t
    type_part = among 3 (TypeOver rd) w.types (parts rd n) t inside

    term_part : IsTerm t → HasType rd t (type_of t)
    term_part = among 4 (λ u. HasType rd u (type_of u)) w.terms (parts rd n) t inside

    formula_part : IsFormula t → TypedFormula rd t
    formula_part = among 5 (TypedFormula rd) w.formulas (parts rd n) t inside

    closed_part : IsFormula t → Closed t → ClosedFormula rd t
    closed_part f c = record { formula = formula_part f; closed = c }

  -- A tree of rule nodes at a sequent is a derivation of it.
  pub proves-LL : {Γ : List Tree} {n k : ℕ} → Proves rd Γ n k → Sequent rd Γ → LL rd Γ
  unfolding class kind_of type_of if_lt if_eq
  proves-LL (Proves.⊥ o m) s = LL.⊥ s m
  proves-LL (Proves.¬⊤ o m) s = LL.¬⊤ s m
  proves-LL (Proves.Ax o f c m l) s = LL.Ax s m l
  proves-LL (Proves.≠ o c m) s = LL.≠ s m
  proves-LL (Proves.Sym o c m l) s = LL.Sym s m l
  proves-LL (Proves.Cut o f c r d q e) s =
      let P = closed_part o _ (here refl) f c in
      LL.Cut s P (proves-LL d (and_one _ s P)) (proves-LL e (and_one _ s (negated P)))
  proves-LL (Proves.¬¬ o f c m r d) s =
      let P = negation_inside (negation_inside (not_member (s _ m))) in
      LL.¬¬ s m (proves-LL d (and_one _ s P))
  proves-LL (Proves.∧ᴸ o c m r d) s =
      let both = conjunction_inside (and_member (s _ m)) in
      LL.∧ᴸ s m (proves-LL d (and_one _ (and_one _ s both.0) both.1))
  proves-LL (Proves.¬⇒ o c m r d) s =
      let both = implication_inside (negation_inside (not_member (s _ m))) in
      LL.¬⇒ s m (proves-LL d (and_one _ (and_one _ s both.0) (negated both.1)))
  proves-LL (Proves.⇒ o c m r d q e) s =
      let both = implication_inside (implies_member (s _ m)) in
      LL.⇒ s m (proves-LL d (and_one _ s (negated both.0))) (proves-LL e (and_one _ s both.1))
  proves-LL (Proves.¬∧ o c m r d q e) s =
      let both = conjunction_inside (negation_inside (not_member (s _ m))) in
      LL.¬∧ s m (proves-LL d (and_one _ s (negated both.0))) (proves-LL e (and_one _ s (negated both.1)))
  proves-LL (Proves.¬∀ o f c i b m fresh r d) s =
      let P = closed_part o _ (there (there (here refl))) f b in
      LL.¬∀ s m (term_part o _ (there (here refl)) refl) fresh (proves-LL d (and_one _ s (negated P)))
  proves-LL (Proves.∀ᴸ {t = t} o i y f c cl b m r d) s =
      let P = closed_part o _ (there (there (here refl))) f b in
      LL.∀ᴸ s m (subst (HasType rd t) y (term_part o _ (there (here refl)) i)) cl (proves-LL d (and_one _ s P))
  proves-LL (Proves.∀type o ts f cs c m r d) s =
      let P = closed_part o _ (there (here refl)) f c in
      LL.∀type s m (λ τ i. type_part o τ (there (there i)) (ts τ i)) cs (proves-LL d (and_one _ s P))
  proves-LL (Proves.Subst {t = t} {u = u} o f i it iu y b ct cu ft bt fu bu m r d q e) s =
      let first : HasType rd t (type_of t) = term_part o _ (there (here refl)) it in
      let second : HasType rd u (type_of t) = subst (HasType rd u) (sym y) (term_part o _ (there (there (here refl))) iu) in
      let equal : ClosedFormula rd (t =ᵗ u) = record { formula = TypedFormula.equation first second; closed = equation_closed ct cu } in
      let P = closed_part o _ (there (there (there (there (here refl))))) fu bu in
      LL.Subst s m (formula_part o _ (here refl) f) i b first second ct cu (proves-LL d (and_one _ s (negated equal))) (proves-LL e (and_one _ s P))
