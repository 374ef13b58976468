-- What is derived by the B rules, the rules of figure 1 without nodes: "over the symbols of obligation and derivation there is a finite tree of sequents,
-- types removed as said above, with the start at its root; each sequent follows from its premises by a rule of kinds 64 to 80, and every branch ends in
-- a rule without premises". A value of the type is such a tree, with its own sequent at the root.
use Rattle.std.specs.Prelude.{ℕ, ◌≡◌, List, ◌∷◌, map}
use Rattle.reader.specs.Words.{Reader}
use Rattle.reader.specs.Trees.{Tree, ⊥ᵗ, ◌∧ᵗ◌, ◌⇒ᵗ◌, ¬ᵗ◌, ◌=ᵗ◌}
use Rattle.reader.specs.Places.{hypotheses, goal}
use Rattle.reader.specs.Members.{◌▹◌}
use Rattle.reader.specs.Notions.{◌∈◌, Every, ◌⊆◌, ◌⟨◌⟩, NoIndex, OpenInZero, Fresh}
use Rattle.reader_laws.specs.File.{alone, beside}
use Rattle.derivation_rules.specs.Erase.{⌊◌⌋, constantᵇ, ∀ᵇ}
use Rattle.derivation_meaning.specs.Formulas.{Term, Formula}

-- a closed formula over the symbols of the files that rd reads
pub record ClosedFormula (rd : Reader) (P : Tree) : Type 0 where
  pub formula : Formula rd P
  pub closed : NoIndex P

-- a sequent: the members of Γ and the goal P are closed formulas
pub record Sequent (rd : Reader) (Γ : List Tree) (P : Tree) : Type 0 where
  pub members : Every (ClosedFormula rd) Γ
  pub goal : ClosedFormula rd P

-- P follows from Γ, over the symbols of the files that rd reads. Each rule says that what follows is a sequent; its premises are sequents by their own
-- rules. In R7 and R8 c and E are a constant and a closed term over those symbols; B of R9 is open in index 0 at most.
pub data Derivable (rd : Reader) : List Tree → Tree → Type 0 where
  BR1 : {Γ : List Tree} {P : Tree} → Sequent rd Γ P → P ∈ Γ → Every (λ t. t ≡ P) Γ → Derivable rd Γ P
  BR2 : {Γ Δ : List Tree} {P : Tree} → Sequent rd Γ P → Δ ⊆ Γ → Derivable rd Δ P → Derivable rd Γ P
  BR3 : {Γ : List Tree} {P : Tree} → Sequent rd Γ P → P ∈ Γ → Derivable rd Γ P
  BR4 : {Γ : List Tree} {P Q : Tree} → Sequent rd Γ Q → Derivable rd Γ P → Derivable rd (Γ ▹ P) Q → Derivable rd Γ Q
  BR6 : {Γ : List Tree} → Sequent rd Γ (¬ᵗ ⊥ᵗ) → Derivable rd Γ (¬ᵗ ⊥ᵗ)
  MP : {Γ : List Tree} {P Q : Tree} → Sequent rd Γ Q → Derivable rd Γ P → Derivable rd Γ (P ⇒ᵗ Q) → Derivable rd Γ Q
  R1 : {Γ : List Tree} {P Q : Tree} → Sequent rd Γ (P ∧ᵗ Q) → Derivable rd Γ P → Derivable rd Γ Q → Derivable rd Γ (P ∧ᵗ Q)
  R2 : {Γ : List Tree} {P Q : Tree} → Sequent rd Γ P → Derivable rd Γ (P ∧ᵗ Q) → Derivable rd Γ P
  R2' : {Γ : List Tree} {P Q : Tree} → Sequent rd Γ Q → Derivable rd Γ (P ∧ᵗ Q) → Derivable rd Γ Q
  R3 : {Γ : List Tree} {P Q : Tree} → Sequent rd Γ (P ⇒ᵗ Q) → Derivable rd (Γ ▹ P) Q → Derivable rd Γ (P ⇒ᵗ Q)
  R4 : {Γ : List Tree} {P Q : Tree} → Sequent rd Γ Q → P ∈ Γ → Derivable rd Γ (P ⇒ᵗ Q) → Derivable rd Γ Q
  R5 : {Γ : List Tree} {P Q : Tree} → Sequent rd Γ Q → Derivable rd (Γ ▹ ¬ᵗ Q) P → Derivable rd (Γ ▹ ¬ᵗ Q) (¬ᵗ P) → Derivable rd Γ Q
  R6 : {Γ : List Tree} {P Q : Tree} → Sequent rd Γ (¬ᵗ Q) → Derivable rd (Γ ▹ Q) P → Derivable rd (Γ ▹ Q) (¬ᵗ P) → Derivable rd Γ (¬ᵗ Q)
  R7 : {Γ : List Tree} {B : Tree} {c : ℕ} → Sequent rd Γ (∀ᵇ B) → Term rd (constantᵇ c) → Fresh c (∀ᵇ B ∷ Γ) →
      Derivable rd Γ (B ⟨ constantᵇ c ⟩) → Derivable rd Γ (∀ᵇ B)
  R8 : {Γ : List Tree} {B E : Tree} → Sequent rd Γ (B ⟨ E ⟩) → Term rd E → NoIndex E → Derivable rd Γ (∀ᵇ B) → Derivable rd Γ (B ⟨ E ⟩)
  R9 : {Γ : List Tree} {B E F : Tree} → Sequent rd Γ (B ⟨ F ⟩) → Formula rd B → OpenInZero B →
      Derivable rd Γ (E =ᵗ F) → Derivable rd Γ (B ⟨ E ⟩) → Derivable rd Γ (B ⟨ F ⟩)
  R10 : {Γ : List Tree} {E : Tree} → Sequent rd Γ (E =ᵗ E) → Derivable rd Γ (E =ᵗ E)

-- Γ ⊢B P: derived by the B rules, over the symbols of the files that rd reads
infix 40 ◌∣◌⊢B◌
abbrev pub ◌∣◌⊢B◌ : Reader → List Tree → Tree → Type 0
rd ∣ Γ ⊢B P = Derivable rd Γ P

-- "The goal of demand 3, and of a derivation's start, is the formula under the ¬ that the obligation's header names": over the symbols of obligation and
-- derivation, the obligation's own goal is derived by the B rules from the obligation's own hypotheses, types removed. The start is a sequent, and so is each
-- of the tree, by `Derivable`.
pub record DerivedByB (ob dv : List ℕ) : Type 0 where
  pub start : Sequent (beside ob dv) (map ⌊◌⌋ (hypotheses (alone ob))) ⌊ goal (alone ob) ⌋
  pub derived : beside ob dv ∣ map ⌊◌⌋ (hypotheses (alone ob)) ⊢B ⌊ goal (alone ob) ⌋
