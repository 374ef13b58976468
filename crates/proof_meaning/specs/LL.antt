-- The typed sequent calculus of figure 3 as plain derivability, over well-typed formulas of the files' symbols: no node, no limit on sequents, no record
-- number but the symbols'.
use Rattle.std.specs.Prelude.{ℕ, List, length}
use Rattle.reader.specs.Words.{Reader}
use Rattle.reader.specs.Trees.{Tree, ⊥ᵗ, ⊤ᵗ, ◌∧ᵗ◌, ◌⇒ᵗ◌, ¬ᵗ◌, ∀ᵗ, ◌=ᵗ◌}
use Rattle.reader.specs.Variables.{instance}
use Rattle.reader.specs.Notions.{◌∈◌, Every, ◌⟨◌⟩, NoIndex, OpenInZero, TypesBelow, Closed, Bears, Fresh}
use Rattle.reader.specs.Members.{◌▹◌}
use Rattle.reader_meaning.specs.Signs.{constantᵗ, for_typesᵗ}
use Rattle.proof_meaning.specs.TypedTrees.{TypeOver, HasType, TypedFormula, PolymorphicFormula}

-- A closed well-typed formula over the symbols of the files that rd reads.
pub record ClosedFormula (rd : Reader) (P : Tree) : Type 0 where
  pub formula : TypedFormula rd P
  pub closed : Closed P

-- A member of a sequent: a closed formula, or a polymorphic formula whose type variables are those that it counts.
pub data Member (rd : Reader) : Tree → Type 0 where
  formula : {P : Tree} → ClosedFormula rd P → Member rd P
  for_all_types : {m : ℕ} {P : Tree} → PolymorphicFormula rd (for_typesᵗ m P) → NoIndex P → TypesBelow m P → Member rd (for_typesᵗ m P)

-- A sequent Γ ⊢ ⊥: "All formulæ are on the left hand side of the sequent".
abbrev pub Sequent : Reader → List Tree → Type 0
Sequent rd Γ = Every (Member rd) Γ

-- Γ ⊢ ⊥ in the calculus, over the symbols of the files that rd reads: "the contraction rule is always applied". Each rule says that its conclusion is a
-- sequent; its premises are sequents by their own rules, so what they add is closed and well typed. The names ∧ and ∀ are words of the language: these two
-- rules are ∧ᴸ and ∀ᴸ.
pub data LL (rd : Reader) : List Tree → Type 0 where
  ⊥ : {Γ : List Tree} → Sequent rd Γ → ⊥ᵗ ∈ Γ → LL rd Γ
  ¬⊤ : {Γ : List Tree} → Sequent rd Γ → (¬ᵗ ⊤ᵗ) ∈ Γ → LL rd Γ
  Ax : {Γ : List Tree} {P : Tree} → Sequent rd Γ → P ∈ Γ → (¬ᵗ P) ∈ Γ → LL rd Γ
  ≠ : {Γ : List Tree} {t : Tree} → Sequent rd Γ → (¬ᵗ (t =ᵗ t)) ∈ Γ → LL rd Γ
  Sym : {Γ : List Tree} {t u : Tree} → Sequent rd Γ → (t =ᵗ u) ∈ Γ → (¬ᵗ (u =ᵗ t)) ∈ Γ → LL rd Γ
  Cut : {Γ : List Tree} {P : Tree} → Sequent rd Γ → ClosedFormula rd P → LL rd (Γ ▹ P) → LL rd (Γ ▹ ¬ᵗ P) → LL rd Γ
  ¬¬ : {Γ : List Tree} {P : Tree} → Sequent rd Γ → (¬ᵗ (¬ᵗ P)) ∈ Γ → LL rd (Γ ▹ P) → LL rd Γ
  ∧ᴸ : {Γ : List Tree} {P Q : Tree} → Sequent rd Γ → (P ∧ᵗ Q) ∈ Γ → LL rd (Γ ▹ P ▹ Q) → LL rd Γ
  ¬⇒ : {Γ : List Tree} {P Q : Tree} → Sequent rd Γ → (¬ᵗ (P ⇒ᵗ Q)) ∈ Γ → LL rd (Γ ▹ P ▹ ¬ᵗ Q) → LL rd Γ
  ⇒ : {Γ : List Tree} {P Q : Tree} → Sequent rd Γ → (P ⇒ᵗ Q) ∈ Γ → LL rd (Γ ▹ ¬ᵗ P) → LL rd (Γ ▹ Q) → LL rd Γ
  ¬∧ : {Γ : List Tree} {P Q : Tree} → Sequent rd Γ → (¬ᵗ (P ∧ᵗ Q)) ∈ Γ → LL rd (Γ ▹ ¬ᵗ P) → LL rd (Γ ▹ ¬ᵗ Q) → LL rd Γ
  -- "where c : τ is a fresh constant"
  ¬∀ : {Γ : List Tree} {c : ℕ} {τ B : Tree} → Sequent rd Γ → (¬ᵗ (∀ᵗ τ B)) ∈ Γ →
      HasType rd (constantᵗ c τ) τ → Fresh c Γ → LL rd (Γ ▹ ¬ᵗ (B ⟨ constantᵗ c τ ⟩)) → LL rd Γ
  -- "where t : τ is any closed term"
  ∀ᴸ : {Γ : List Tree} {τ B t : Tree} → Sequent rd Γ → (∀ᵗ τ B) ∈ Γ → HasType rd t τ → Closed t → LL rd (Γ ▹ B ⟨ t ⟩) → LL rd Γ
  -- "where τ is any closed type", one for each type variable
  ∀type : {Γ : List Tree} {P : Tree} {τs : List Tree} → Sequent rd Γ → for_typesᵗ (length τs) P ∈ Γ →
      Every (TypeOver rd) τs → Every Closed τs → LL rd (Γ ▹ instance τs P) → LL rd Γ
  -- B is a formula "open in index 0 at most", t and u closed terms of one type, that of each place in B
  Subst : {Γ : List Tree} {τ B t u : Tree} → Sequent rd Γ → B ⟨ t ⟩ ∈ Γ → TypedFormula rd B → OpenInZero B → Bears τ 0 B →
      HasType rd t τ → HasType rd u τ → Closed t → Closed u → LL rd (Γ ▹ ¬ᵗ (t =ᵗ u)) → LL rd (Γ ▹ B ⟨ u ⟩) → LL rd Γ
