-- What a derivation is, rule by rule, as in figure 1, over the records of a file.
use Rattle.std.specs.Prelude.{ℕ, suc, ◌+◌, ◌≤◌, ◌≡◌, List, [], ◌∷◌, length}
use Rattle.reader.specs.Words.{Reader}
use Rattle.reader.specs.Trees.{Tree, ⊥ᵗ, ◌∧ᵗ◌, ◌⇒ᵗ◌, ¬ᵗ◌, ◌=ᵗ◌}
use Rattle.reader.specs.Chains.{premises}
use Rattle.reader.specs.Members.{◌▹◌}
use Rattle.reader.specs.Notions.{◌∈◌, Every, ◌⊆◌, IsTerm, IsFormula, ◌⟨◌⟩, NoIndex, OpenInZero, Fresh}
use Rattle.derivation_rules.specs.Erase.{bare_parts, constantᵇ, ∀ᵇ}

-- Node n is of kind k, with parts ps, types removed, and premises xs; Γ and the depth d are within the limits.
pub record DerivationNode (rd : Reader) (n k : ℕ) (ps : List Tree) (xs : List ℕ) (Γ : List Tree) (d : ℕ) : Type 0 where
  pub kind : rd n 0 ≡ k
  pub parts_of : bare_parts rd n ≡ ps
  pub premises_of : premises rd n ≡ xs
  pub members : length Γ ≤ 2048
  pub depth : d ≤ 8192

-- Node n, at depth d, derives P from Γ with k nodes.
pub data Derives (rd : Reader) : List Tree → Tree → ℕ → ℕ → ℕ → Type 0 where
  BR1 : {Γ : List Tree} {P : Tree} {d n : ℕ} → DerivationNode rd n 64 [] [] Γ d →
      P ∈ Γ → Every (λ t. t ≡ P) Γ →
      Derives rd Γ P d n 1
  BR2 : {Γ Δ : List Tree} {P : Tree} {d n x i : ℕ} → DerivationNode rd n 65 Δ (x ∷ []) Γ d →
      Every IsFormula Δ → Every NoIndex Δ → Δ ⊆ Γ →
      Derives rd Δ P (d + 1) x i →
      Derives rd Γ P d n (suc i)
  BR3 : {Γ : List Tree} {P : Tree} {d n : ℕ} → DerivationNode rd n 66 [] [] Γ d →
      P ∈ Γ →
      Derives rd Γ P d n 1
  BR4 : {Γ : List Tree} {P Q : Tree} {d n x y i j : ℕ} → DerivationNode rd n 67 (P ∷ []) (x ∷ y ∷ []) Γ d →
      IsFormula P → NoIndex P →
      Derives rd Γ P (d + 1) x i → Derives rd (Γ ▹ P) Q (d + 1) y j →
      Derives rd Γ Q d n (suc (i + j))
  BR6 : {Γ : List Tree} {d n : ℕ} → DerivationNode rd n 68 [] [] Γ d →
      Derives rd Γ (¬ᵗ ⊥ᵗ) d n 1
  MP : {Γ : List Tree} {P Q : Tree} {d n x y i j : ℕ} → DerivationNode rd n 69 (P ⇒ᵗ Q ∷ []) (x ∷ y ∷ []) Γ d →
      NoIndex (P ⇒ᵗ Q) →
      Derives rd Γ P (d + 1) x i → Derives rd Γ (P ⇒ᵗ Q) (d + 1) y j →
      Derives rd Γ Q d n (suc (i + j))
  R1 : {Γ : List Tree} {P Q : Tree} {d n x y i j : ℕ} → DerivationNode rd n 70 [] (x ∷ y ∷ []) Γ d →
      Derives rd Γ P (d + 1) x i → Derives rd Γ Q (d + 1) y j →
      Derives rd Γ (P ∧ᵗ Q) d n (suc (i + j))
  R2 : {Γ : List Tree} {P Q : Tree} {d n x i : ℕ} → DerivationNode rd n 71 (P ∧ᵗ Q ∷ []) (x ∷ []) Γ d →
      NoIndex (P ∧ᵗ Q) →
      Derives rd Γ (P ∧ᵗ Q) (d + 1) x i →
      Derives rd Γ P d n (suc i)
  R2' : {Γ : List Tree} {P Q : Tree} {d n x i : ℕ} → DerivationNode rd n 72 (P ∧ᵗ Q ∷ []) (x ∷ []) Γ d →
      NoIndex (P ∧ᵗ Q) →
      Derives rd Γ (P ∧ᵗ Q) (d + 1) x i →
      Derives rd Γ Q d n (suc i)
  R3 : {Γ : List Tree} {P Q : Tree} {d n x i : ℕ} → DerivationNode rd n 73 [] (x ∷ []) Γ d →
      Derives rd (Γ ▹ P) Q (d + 1) x i →
      Derives rd Γ (P ⇒ᵗ Q) d n (suc i)
  R4 : {Γ : List Tree} {P Q : Tree} {d n x i : ℕ} → DerivationNode rd n 74 (P ⇒ᵗ Q ∷ []) (x ∷ []) Γ d →
      NoIndex (P ⇒ᵗ Q) → P ∈ Γ →
      Derives rd Γ (P ⇒ᵗ Q) (d + 1) x i →
      Derives rd Γ Q d n (suc i)
  R5 : {Γ : List Tree} {P Q : Tree} {d n x y i j : ℕ} → DerivationNode rd n 75 (P ∷ []) (x ∷ y ∷ []) Γ d →
      IsFormula P → NoIndex P →
      Derives rd (Γ ▹ ¬ᵗ Q) P (d + 1) x i → Derives rd (Γ ▹ ¬ᵗ Q) (¬ᵗ P) (d + 1) y j →
      Derives rd Γ Q d n (suc (i + j))
  R6 : {Γ : List Tree} {P Q : Tree} {d n x y i j : ℕ} → DerivationNode rd n 76 (P ∷ []) (x ∷ y ∷ []) Γ d →
      IsFormula P → NoIndex P →
      Derives rd (Γ ▹ Q) P (d + 1) x i → Derives rd (Γ ▹ Q) (¬ᵗ P) (d + 1) y j →
      Derives rd Γ (¬ᵗ Q) d n (suc (i + j))
  R7 : {Γ : List Tree} {B : Tree} {c d n x i : ℕ} → DerivationNode rd n 77 (constantᵇ c ∷ B ⟨ constantᵇ c ⟩ ∷ []) (x ∷ []) Γ d →
      IsFormula (B ⟨ constantᵇ c ⟩) → NoIndex (B ⟨ constantᵇ c ⟩) → Fresh c (∀ᵇ B ∷ Γ) →
      Derives rd Γ (B ⟨ constantᵇ c ⟩) (d + 1) x i →
      Derives rd Γ (∀ᵇ B) d n (suc i)
  R8 : {Γ : List Tree} {B E : Tree} {d n x i : ℕ} → DerivationNode rd n 78 (∀ᵇ B ∷ E ∷ []) (x ∷ []) Γ d →
      IsTerm E → NoIndex (∀ᵇ B) → NoIndex E →
      Derives rd Γ (∀ᵇ B) (d + 1) x i →
      Derives rd Γ (B ⟨ E ⟩) d n (suc i)
  R9 : {Γ : List Tree} {B E F : Tree} {d n x y i j : ℕ} → DerivationNode rd n 79 (B ∷ E =ᵗ F ∷ B ⟨ E ⟩ ∷ []) (x ∷ y ∷ []) Γ d →
      IsFormula B → IsFormula (B ⟨ E ⟩) → OpenInZero B → NoIndex (E =ᵗ F) → NoIndex (B ⟨ E ⟩) →
      Derives rd Γ (E =ᵗ F) (d + 1) x i → Derives rd Γ (B ⟨ E ⟩) (d + 1) y j →
      Derives rd Γ (B ⟨ F ⟩) d n (suc (i + j))
  R10 : {Γ : List Tree} {E : Tree} {d n : ℕ} → DerivationNode rd n 80 [] [] Γ d →
      Derives rd Γ (E =ᵗ E) d n 1
