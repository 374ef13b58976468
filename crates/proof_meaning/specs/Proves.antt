-- What an accepted tree of rule nodes is: one constructor for each proof rule, in the order of paper 01, under the rule's name in figure 3.
-- The names ∧ and ∀ are words of the language: these two constructors are ∧ᴸ and ∀ᴸ.
use Rattle.std.specs.Prelude.{ℕ, suc, ◌+◌, ◌≤◌, ◌≡◌, List, [], ◌∷◌, map, length}
use Rattle.reader.specs.Words.{Reader}
use Rattle.reader.specs.Trees.{Tree, tree, ⊥ᵗ, ⊤ᵗ, ◌∧ᵗ◌, ◌⇒ᵗ◌, ¬ᵗ◌, ∀ᵗ, ◌=ᵗ◌}
use Rattle.reader.specs.Chains.{parts, premises}
use Rattle.reader.specs.Variables.{instance}
use Rattle.reader.specs.Typing.{type_of}
use Rattle.reader.specs.Notions.{◌∈◌, Every, IsType, IsTerm, IsFormula, ◌⟨◌⟩, OpenInZero, Closed, Bears, Fresh}
use Rattle.reader.specs.Members.{◌▹◌}
use Rattle.reader_meaning.specs.Signs.{constantᵗ, for_typesᵗ}

-- node n is of kind k, with the trees `ps` as its parts and the nodes `xs` as its premises
pub record ProofNode (rd : Reader) (n k : ℕ) (ps : List Tree) (xs : List ℕ) : Type 0 where
  pub kind : rd n 0 ≡ k
  pub parts_are : map (tree rd) (parts rd n) ≡ ps
  pub premises_are : premises rd n ≡ xs

-- A sequent of at most 1,024 members: "a premise's sequent over 1,024 members, repeats counted" is refused.
abbrev pub Fits : List Tree → Type 0
Fits Γ = length Γ ≤ 1024

-- Node n proves the sequent Γ, by k nodes: the parts, their class and closedness, what is in the sequent, what the premises add.
pub data Proves (rd : Reader) : List Tree → ℕ → ℕ → Type 0 where
  -- 32
  ⊥ : {Γ : List Tree} {n : ℕ} → ProofNode rd n 32 [] [] → ⊥ᵗ ∈ Γ → Proves rd Γ n 1
  -- 33
  ¬⊤ : {Γ : List Tree} {n : ℕ} → ProofNode rd n 33 [] [] → (¬ᵗ ⊤ᵗ) ∈ Γ → Proves rd Γ n 1
  -- 34
  Ax : {Γ : List Tree} {n : ℕ} {P : Tree} →
      ProofNode rd n 34 (P ∷ []) [] → IsFormula P → Closed P → P ∈ Γ → (¬ᵗ P) ∈ Γ → Proves rd Γ n 1
  -- 35
  ≠ : {Γ : List Tree} {n : ℕ} {t : Tree} →
      ProofNode rd n 35 (¬ᵗ (t =ᵗ t) ∷ []) [] → Closed (¬ᵗ (t =ᵗ t)) → (¬ᵗ (t =ᵗ t)) ∈ Γ → Proves rd Γ n 1
  -- 36
  Sym : {Γ : List Tree} {n : ℕ} {t u : Tree} →
      ProofNode rd n 36 (t =ᵗ u ∷ []) [] → Closed (t =ᵗ u) → (t =ᵗ u) ∈ Γ → (¬ᵗ (u =ᵗ t)) ∈ Γ → Proves rd Γ n 1
  -- 37
  Cut : {Γ : List Tree} {n x y k j : ℕ} {P : Tree} →
      ProofNode rd n 37 (P ∷ []) (x ∷ y ∷ []) → IsFormula P → Closed P →
      Fits (Γ ▹ P) → Proves rd (Γ ▹ P) x k →
      Fits (Γ ▹ ¬ᵗ P) → Proves rd (Γ ▹ ¬ᵗ P) y j → Proves rd Γ n (suc (k + j))
  -- 38
  ¬¬ : {Γ : List Tree} {n x k : ℕ} {P : Tree} →
      ProofNode rd n 38 (¬ᵗ (¬ᵗ P) ∷ []) (x ∷ []) → IsFormula P → Closed (¬ᵗ (¬ᵗ P)) → (¬ᵗ (¬ᵗ P)) ∈ Γ →
      Fits (Γ ▹ P) → Proves rd (Γ ▹ P) x k → Proves rd Γ n (suc k)
  -- 39
  ∧ᴸ : {Γ : List Tree} {n x k : ℕ} {P Q : Tree} →
      ProofNode rd n 39 (P ∧ᵗ Q ∷ []) (x ∷ []) → Closed (P ∧ᵗ Q) → (P ∧ᵗ Q) ∈ Γ →
      Fits (Γ ▹ P ▹ Q) → Proves rd (Γ ▹ P ▹ Q) x k → Proves rd Γ n (suc k)
  -- 40
  ¬⇒ : {Γ : List Tree} {n x k : ℕ} {P Q : Tree} →
      ProofNode rd n 40 (¬ᵗ (P ⇒ᵗ Q) ∷ []) (x ∷ []) → Closed (¬ᵗ (P ⇒ᵗ Q)) → (¬ᵗ (P ⇒ᵗ Q)) ∈ Γ →
      Fits (Γ ▹ P ▹ ¬ᵗ Q) → Proves rd (Γ ▹ P ▹ ¬ᵗ Q) x k → Proves rd Γ n (suc k)
  -- 41
  ⇒ : {Γ : List Tree} {n x y k j : ℕ} {P Q : Tree} →
      ProofNode rd n 41 (P ⇒ᵗ Q ∷ []) (x ∷ y ∷ []) → Closed (P ⇒ᵗ Q) → (P ⇒ᵗ Q) ∈ Γ →
      Fits (Γ ▹ ¬ᵗ P) → Proves rd (Γ ▹ ¬ᵗ P) x k →
      Fits (Γ ▹ Q) → Proves rd (Γ ▹ Q) y j → Proves rd Γ n (suc (k + j))
  -- 42
  ¬∧ : {Γ : List Tree} {n x y k j : ℕ} {P Q : Tree} →
      ProofNode rd n 42 (¬ᵗ (P ∧ᵗ Q) ∷ []) (x ∷ y ∷ []) → Closed (¬ᵗ (P ∧ᵗ Q)) → (¬ᵗ (P ∧ᵗ Q)) ∈ Γ →
      Fits (Γ ▹ ¬ᵗ P) → Proves rd (Γ ▹ ¬ᵗ P) x k →
      Fits (Γ ▹ ¬ᵗ Q) → Proves rd (Γ ▹ ¬ᵗ Q) y j → Proves rd Γ n (suc (k + j))
  -- 43, with a constant c of type τ that is fresh in every member
  ¬∀ : {Γ : List Tree} {n x k c : ℕ} {τ B : Tree} →
      ProofNode rd n 43 (¬ᵗ (∀ᵗ τ B) ∷ constantᵗ c τ ∷ B ⟨ constantᵗ c τ ⟩ ∷ []) (x ∷ []) →
      IsFormula (B ⟨ constantᵗ c τ ⟩) → Closed (¬ᵗ (∀ᵗ τ B)) → Closed (constantᵗ c τ) → Closed (B ⟨ constantᵗ c τ ⟩) →
      (¬ᵗ (∀ᵗ τ B)) ∈ Γ → Fresh c Γ →
      Fits (Γ ▹ ¬ᵗ (B ⟨ constantᵗ c τ ⟩)) → Proves rd (Γ ▹ ¬ᵗ (B ⟨ constantᵗ c τ ⟩)) x k → Proves rd Γ n (suc k)
  -- 44, with a closed term t of type τ
  ∀ᴸ : {Γ : List Tree} {n x k : ℕ} {τ B t : Tree} →
      ProofNode rd n 44 (∀ᵗ τ B ∷ t ∷ B ⟨ t ⟩ ∷ []) (x ∷ []) →
      IsTerm t → type_of t ≡ τ → IsFormula (B ⟨ t ⟩) → Closed (∀ᵗ τ B) → Closed t → Closed (B ⟨ t ⟩) →
      (∀ᵗ τ B) ∈ Γ →
      Fits (Γ ▹ B ⟨ t ⟩) → Proves rd (Γ ▹ B ⟨ t ⟩) x k → Proves rd Γ n (suc k)
  -- 45, with as many closed types as the count, variable 0's first
  ∀type : {Γ : List Tree} {n x k : ℕ} {P : Tree} {τs : List Tree} →
      ProofNode rd n 45 (for_typesᵗ (length τs) P ∷ instance τs P ∷ τs) (x ∷ []) →
      Every IsType τs → IsFormula (instance τs P) → Every Closed τs → Closed (instance τs P) →
      for_typesᵗ (length τs) P ∈ Γ →
      Fits (Γ ▹ instance τs P) → Proves rd (Γ ▹ instance τs P) x k → Proves rd Γ n (suc k)
  -- 46, B open in index 0 at most, t and u closed terms of one type, that of each place in B
  Subst : {Γ : List Tree} {n x y k j : ℕ} {B t u : Tree} →
      ProofNode rd n 46 (B ∷ t ∷ u ∷ B ⟨ t ⟩ ∷ B ⟨ u ⟩ ∷ []) (x ∷ y ∷ []) →
      IsFormula B → OpenInZero B → IsTerm t → IsTerm u → type_of t ≡ type_of u → Bears (type_of t) 0 B →
      Closed t → Closed u → IsFormula (B ⟨ t ⟩) → Closed (B ⟨ t ⟩) → IsFormula (B ⟨ u ⟩) → Closed (B ⟨ u ⟩) →
      B ⟨ t ⟩ ∈ Γ →
      Fits (Γ ▹ ¬ᵗ (t =ᵗ u)) → Proves rd (Γ ▹ ¬ᵗ (t =ᵗ u)) x k →
      Fits (Γ ▹ B ⟨ u ⟩) → Proves rd (Γ ▹ B ⟨ u ⟩) y j → Proves rd Γ n (suc (k + j))
