-- In files whose formulas and terms are of the language, what a node derives from closed formulas is derived by the B rules.
use Rattle.std.specs.Prelude.{ℕ, ◌≡◌}
use Rattle.std.proofs.Math.Path.{refl}
use Rattle.std.proofs.Common.{sym, subst, arith}
use mathlib.Core.List.{List, [], ◌∷◌, map}
use Rattle.reader.specs.Tests.{if_lt}
use Rattle.reader.specs.Words.{Reader}
use Rattle.reader.specs.Kinds.{class}
use Rattle.reader.specs.Trees.{Tree, kind_of, ◌∧ᵗ◌, ◌⇒ᵗ◌, ¬ᵗ◌}
use Rattle.reader.specs.Chains.{parts}
use Rattle.reader.specs.Members.{◌▹◌}
use Rattle.reader.specs.Variables.{binders}
use Rattle.reader.specs.Notions.{◌∈◌, here, there, Every, IsTerm, IsFormula, IndicesBelow, NoIndex}
use Rattle.reader_laws.specs.NotionLaws.{every_0, every_more}
use Rattle.derivation_rules.specs.Erase.{bare_tree, bare_parts}
use Rattle.derivation_meaning.specs.Formulas.{Term, Formula, OfLanguage}
use Rattle.derivation_meaning.specs.Derives.{DerivationNode, Derives}
use Rattle.derivation_meaning.specs.Derivable.{ClosedFormula, Sequent, Derivable, ◌∣◌⊢B◌}
use Rattle.derivation_meaning.proofs.MemberLaws.{none_in}

module _ {rd : Reader} (w : OfLanguage rd) where
  formula_in : (is : List ℕ) (t : Tree) → t ∈ map (bare_tree rd) is → IsFormula t → Formula rd t
  formula_in [] t m f = none_in m
  formula_in (i ∷ is) t (here e) f = subst (Formula rd) (sym e) (w.formulas i (subst IsFormula e f))
  formula_in (i ∷ is) t (there m) f = formula_in is t m f

  term_in : (is : List ℕ) (t : Tree) → t ∈ map (bare_tree rd) is → IsTerm t → Term rd t
  term_in [] t m f = none_in m
  term_in (i ∷ is) t (here e) f = subst (Term rd) (sym e) (w.terms i (subst IsTerm e f))
  term_in (i ∷ is) t (there m) f = term_in is t m f

  -- a part of a node, as a formula and as a term
  formula_part : {n k d : ℕ} {ps Γ : List Tree} {xs : List ℕ} → DerivationNode rd n k ps xs Γ d → (t : Tree) → t ∈ ps → IsFormula t → Formula rd t
  unfolding bare_parts
  formula_part {n = n} node t m = formula_in (parts rd n) t (subst (λ (ps : List Tree). t ∈ ps) (sym node.parts_of) m)

  term_part : {n k d : ℕ} {ps Γ : List Tree} {xs : List ℕ} → DerivationNode rd n k ps xs Γ d → (t : Tree) → t ∈ ps → IsTerm t → Term rd t
  unfolding bare_parts
  term_part {n = n} node t m = term_in (parts rd n) t (subst (λ (ps : List Tree). t ∈ ps) (sym node.parts_of) m)

  -- closed formulas from closed formulas

  under_and : {P Q : Tree} → ClosedFormula rd (P ∧ᵗ Q) → ClosedFormula rd P × ClosedFormula rd Q
  unfolding binders
  under_and c = both c.formula c.closed
    where
      both : {P Q : Tree} → Formula rd (P ∧ᵗ Q) → NoIndex (P ∧ᵗ Q) → ClosedFormula rd P × ClosedFormula rd Q
      both (Formula.conjunction f g) (IndicesBelow.inside own p q r) = (record { formula = f; closed = p }, record { formula = g; closed = q })

  under_implies : {P Q : Tree} → ClosedFormula rd (P ⇒ᵗ Q) → ClosedFormula rd P × ClosedFormula rd Q
  unfolding binders
  under_implies c = both c.formula c.closed
    where
      both : {P Q : Tree} → Formula rd (P ⇒ᵗ Q) → NoIndex (P ⇒ᵗ Q) → ClosedFormula rd P × ClosedFormula rd Q
      both (Formula.implication f g) (IndicesBelow.inside own p q r) = (record { formula = f; closed = p }, record { formula = g; closed = q })

  under_not : {P : Tree} → ClosedFormula rd (¬ᵗ P) → ClosedFormula rd P
  under_not c = one c.formula c.closed
    where
      one : {P : Tree} → Formula rd (¬ᵗ P) → NoIndex (¬ᵗ P) → ClosedFormula rd P
      one (Formula.negation f) (IndicesBelow.inside own p q r) = record { formula = f; closed = p }

  negated : {P : Tree} → ClosedFormula rd P → ClosedFormula rd (¬ᵗ P)
  negated c = record {
    formula = Formula.negation c.formula;
    closed = IndicesBelow.inside (λ (e : ◌≡◌ {A = ℕ} 18 9). absurd (omega arith)) c.closed IndicesBelow.none IndicesBelow.none;
  }

  -- Γ and one formula more
  and_one : {P : Tree} (Γ : List Tree) → Every (ClosedFormula rd) Γ → ClosedFormula rd P → Every (ClosedFormula rd) (Γ ▹ P)
  and_one [] m c = every_more (ClosedFormula rd) _ [] c (every_0 (ClosedFormula rd))
  and_one (t ∷ Γ) m c = every_more (ClosedFormula rd) t (Γ ▹ _) (m t (here refl)) (and_one Γ (λ u e. m u (there e)) c)

  of : {Γ : List Tree} {P : Tree} → Every (ClosedFormula rd) Γ → ClosedFormula rd P → Sequent rd Γ P
  of m c = record { members = m; goal = c }

  -- a formula among the parts that has no index
  closed_part : {n k d : ℕ} {ps Γ : List Tree} {xs : List ℕ} → DerivationNode rd n k ps xs Γ d → (t : Tree) → t ∈ ps → IsFormula t → NoIndex t →
      ClosedFormula rd t
  closed_part node t m f c = record { formula = formula_part node t m f; closed = c }

  -- what a node derives from closed formulas follows by the B rules, where it is one
  pub derives-B : {Γ : List Tree} {P : Tree} {d n k : ℕ} → Derives rd Γ P d n k → Every (ClosedFormula rd) Γ → ClosedFormula rd P → rd ∣ Γ ⊢B P
  unfolding class kind_of if_lt
  derives-B (Derives.BR1 node m all) Γ P = Derivable.BR1 (of Γ P) m all
  derives-B (Derives.BR2 node f c s p) Γ P = Derivable.BR2 (of Γ P) s (derives-B p (λ t m. Γ t (s t m)) P)
  derives-B (Derives.BR3 node m) Γ P = Derivable.BR3 (of Γ P) m
  derives-B (Derives.BR4 node f c p q) Γ Q =
      let P = closed_part node _ (here refl) f c in
      Derivable.BR4 (of Γ Q) (derives-B p Γ P) (derives-B q (and_one _ Γ P) Q)
  derives-B (Derives.BR6 node) Γ P = Derivable.BR6 (of Γ P)
  derives-B (Derives.MP node c p q) Γ Q =
      let i = closed_part node _ (here refl) refl c in
      Derivable.MP (of Γ Q) (derives-B p Γ (under_implies i).0) (derives-B q Γ i)
  derives-B (Derives.R1 node p q) Γ a =
      let both = under_and a in
      Derivable.R1 (of Γ a) (derives-B p Γ both.0) (derives-B q Γ both.1)
  derives-B (Derives.R2 node c p) Γ P = Derivable.R2 (of Γ P) (derives-B p Γ (closed_part node _ (here refl) refl c))
  derives-B (Derives.R2' node c p) Γ Q = Derivable.R2' (of Γ Q) (derives-B p Γ (closed_part node _ (here refl) refl c))
  derives-B (Derives.R3 node p) Γ i =
      let both = under_implies i in
      Derivable.R3 (of Γ i) (derives-B p (and_one _ Γ both.0) both.1)
  derives-B (Derives.R4 node c m p) Γ Q = Derivable.R4 (of Γ Q) m (derives-B p Γ (closed_part node _ (here refl) refl c))
  derives-B (Derives.R5 node f c p q) Γ Q =
      let P = closed_part node _ (here refl) f c in
      let more = and_one _ Γ (negated Q) in
      Derivable.R5 (of Γ Q) (derives-B p more P) (derives-B q more (negated P))
  derives-B (Derives.R6 node f c p q) Γ n =
      let P = closed_part node _ (here refl) f c in
      let more = and_one _ Γ (under_not n) in
      Derivable.R6 (of Γ n) (derives-B p more P) (derives-B q more (negated P))
  derives-B (Derives.R7 node f c fresh p) Γ a =
      Derivable.R7 (of Γ a) (term_part node _ (here refl) refl) fresh (derives-B p Γ (closed_part node _ (there (here refl)) f c))
  derives-B (Derives.R8 node t c e p) Γ P =
      Derivable.R8 (of Γ P) (term_part node _ (there (here refl)) t) e (derives-B p Γ (closed_part node _ (here refl) refl c))
  derives-B (Derives.R9 node f g o c e p q) Γ P =
      Derivable.R9 (of Γ P) (formula_part node _ (here refl) f) o (derives-B p Γ (closed_part node _ (there (here refl)) refl c))
      (derives-B q Γ (closed_part node _ (there (there (here refl))) g e))
  derives-B (Derives.R10 node) Γ P = Derivable.R10 (of Γ P)
