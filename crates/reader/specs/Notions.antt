-- What rules and files speak of, as propositions: elements, classes, replacement, closedness, types of places, occurrence, freshness.
use Rattle.std.specs.Prelude.{ℕ, ◌+◌, ◌<◌, ◌≡◌, List, ◌∷◌}
use Rattle.reader.specs.Kinds.{typeᶜ, termᶜ, formulaᶜ, class}
use Rattle.reader.specs.Trees.{Tree, leaf, node, kind_of}
use Rattle.reader.specs.Variables.{binders, replaced}

infix 50 ◌∈◌
-- x is an element of a list
pub data ◌∈◌ {A : Type 0} (x : A) : List A → Type 0 where
  here : {y : A} {ys : List A} → x ≡ y → x ∈ (y ∷ ys)
  there : {y : A} {ys : List A} → x ∈ ys → x ∈ (y ∷ ys)

-- each element of a list has Q
abbrev pub Every : {A : Type 0} → (A → Type 0) → List A → Type 0
Every {A} Q xs = (x : A) → x ∈ xs → Q x

-- each element of Δ is an element of Γ
infix 50 ◌⊆◌
abbrev pub ◌⊆◌ : List Tree → List Tree → Type 0
Δ ⊆ Γ = (t : Tree) → t ∈ Δ → t ∈ Γ

-- classes, by the table of records: types are kinds 3 to 6, terms 7, 9 to 13 and 23, formulas 14 to 21
abbrev pub IsType : Tree → Type 0
IsType t = class (kind_of t) ≡ typeᶜ

abbrev pub IsTerm : Tree → Type 0
IsTerm t = class (kind_of t) ≡ termᶜ

abbrev pub IsFormula : Tree → Type 0
IsFormula t = class (kind_of t) ≡ formulaᶜ

infix 80 ◌⟨◌⟩
-- "B(t) is B with index 0 replaced"
abbrev pub ◌⟨◌⟩ : Tree → Tree → Tree
B ⟨ t ⟩ = replaced 0 t B

-- Every index is below d, or bound in the tree: a node of kind 9 is a bound variable, and `binders` says how many ∀ are crossed.
pub data IndicesBelow : ℕ → Tree → Type 0 where
  none : {d : ℕ} → IndicesBelow d leaf
  inside : {d k a : ℕ} {x y z : Tree} →
      (k ≡ 9 → a < d) → IndicesBelow d x → IndicesBelow (d + binders k) y → IndicesBelow d z → IndicesBelow d (node k a x y z)

-- "no unbound index": in derivations that is closed
abbrev pub NoIndex : Tree → Type 0
NoIndex t = IndicesBelow 0 t

-- "open in index 0 at most"
abbrev pub OpenInZero : Tree → Type 0
OpenInZero t = IndicesBelow 1 t

-- every type variable, kind 6, is below p
pub data TypesBelow (p : ℕ) : Tree → Type 0 where
  none : TypesBelow p leaf
  inside : {k a : ℕ} {x y z : Tree} → (k ≡ 6 → a < p) → TypesBelow p x → TypesBelow p y → TypesBelow p z → TypesBelow p (node k a x y z)

-- "closed: no unbound index, no type variable"
pub record Closed (t : Tree) : Type 0 where
  pub no_index : NoIndex t
  pub no_type_variable : TypesBelow 0 t

-- "each occurrence bound by it bears its type": every occurrence of index d in the tree has the type τ
pub data Bears (τ : Tree) : ℕ → Tree → Type 0 where
  none : {d : ℕ} → Bears τ d leaf
  place : {d k a : ℕ} {x y z : Tree} → k ≡ 9 → a ≡ d → y ≡ τ → Bears τ d (node k a x y z)
  inside : {d k a : ℕ} {x y z : Tree} →
      (k ≡ 9 → a ≡ d → ⊥) → Bears τ d x → Bears τ (d + binders k) y → Bears τ d z → Bears τ d (node k a x y z)

-- the constant, kind 7, with record number c is in the tree
pub data Occurs (c : ℕ) : Tree → Type 0 where
  itself : {k a : ℕ} {x y z : Tree} → k ≡ 7 → a ≡ c → Occurs c (node k a x y z)
  first : {k a : ℕ} {x y z : Tree} → Occurs c x → Occurs c (node k a x y z)
  second : {k a : ℕ} {x y z : Tree} → Occurs c y → Occurs c (node k a x y z)
  third : {k a : ℕ} {x y z : Tree} → Occurs c z → Occurs c (node k a x y z)

-- "Fresh: c is in no member of the sequent."
abbrev pub Fresh : ℕ → List Tree → Type 0
Fresh c Γ = Every (λ t. Occurs c t → ⊥) Γ
