-- Typing of records, in the words of paper 01 and of paper 02, U3.
use Rattle.std.specs.Prelude.{ℕ, ◌≡◌, List, ◌∷◌, map, length}
use Rattle.reader.specs.Words.{Reader}
use Rattle.reader.specs.Trees.{Tree, leaf, node, tree, ∀ᵗ, ◌=ᵗ◌, setᵗ, pairᵗ}
use Rattle.reader.specs.Chains.{item_trees}
use Rattle.reader.specs.Variables.{instance}
use Rattle.reader.specs.Typing.{type_of, signature}
use Rattle.reader.specs.Notions.{Every, TypesBelow, Bears}
use Rattle.reader_meaning.specs.Signs.{constantᵗ}

-- "an application fits its signature with the type arguments put in": its own type, its type arguments as many as the function's parameters, and own type and
-- arguments' types the signature's, one by one
pub record Applied (rd : Reader) (i : ℕ) : Type 0 where
  pub own : Tree
  pub type_arguments : List Tree
  pub types_are : item_trees rd (rd i 2) ≡ own ∷ type_arguments
  pub parameters : length type_arguments ≡ rd (rd i 1) 2
  pub fits : own ∷ map type_of (item_trees rd (rd i 3)) ≡ map (instance type_arguments) (signature rd (rd i 1))

-- "Typing", by what record i says
pub record Typed (rd : Reader) (i : ℕ) : Type 0 where
  -- "A constant's type has no variable."
  pub constant : (c : ℕ) (τ : Tree) → tree rd i ≡ constantᵗ c τ → TypesBelow 0 τ
  -- "Signatures use only variables below their parameter count."
  pub function : rd i 0 ≡ 8 → Every (TypesBelow (rd i 2)) (signature rd i)
  -- "a pair of a τ and a υ is Pair(τ,υ)"
  pub pair : (x y own : Tree) → tree rd i ≡ node 10 0 x y own → own ≡ pairᵗ (type_of x) (type_of y)
  -- "a product of Set(τ), Set(υ) is Set(Pair(τ,υ))"
  pub product : (x y own : Tree) → tree rd i ≡ node 11 0 x y own →
      (τ : Tree) × (υ : Tree) × (type_of x ≡ setᵗ τ) × (type_of y ≡ setᵗ υ) × (own ≡ setᵗ (pairᵗ τ υ))
  -- "a powerset of Set(τ) is Set(Set(τ))"
  pub powerset : (x own : Tree) → tree rd i ≡ node 12 0 x own leaf → (τ : Tree) × (type_of x ≡ setᵗ τ) × (own ≡ setᵗ (setᵗ τ))
  -- "an application fits its signature with the type arguments put in"
  pub application : rd i 0 ≡ 13 → Applied rd i
  -- "In ∀, each occurrence bound by it bears its type."
  pub universal : (τ B : Tree) → tree rd i ≡ ∀ᵗ τ B → Bears τ 0 B
  -- "= needs equal types"
  pub equation : (t u : Tree) → tree rd i ≡ (t =ᵗ u) → type_of t ≡ type_of u
  -- "x ∈ s needs s of type Set(τ) for x of τ"
  pub membership : (x s : Tree) → tree rd i ≡ node 21 0 x s leaf → type_of s ≡ setᵗ (type_of x)
  -- "s is of type Set(τ)" (paper 02, U3)
  pub choice : (s τ : Tree) → tree rd i ≡ node 23 0 s τ leaf → type_of s ≡ setᵗ τ
