-- What a record says, as a tree; one type for types, terms, formulas and chains of them.
use Rattle.std.specs.Prelude.{ℕ, Bool, true, false, eqb}
use Rattle.reader.specs.Words.{Reader}
use Rattle.reader.specs.Down.{down}
use Rattle.reader.specs.Kinds.{kinds, itemʳ, is_number, is_symbol, role_at}
use Rattle.reader.specs.Tests.{if_lt, if_true}

-- a record's kind, its atom, and what its words 1 to 3 refer to
pub data Tree : Type 0 where
  leaf : Tree
  node : ℕ → ℕ → Tree → Tree → Tree → Tree

-- "Every reference points to a smaller record number": the record that word w of record i refers to; 0 where the word is no such reference
unfoldable pub lower : Reader → ℕ → ℕ → ℕ
lower rd i w = if_lt (rd i w) i (rd i w) 0

-- the same where it is a part of record i's tree, else 0
unfoldable pub child : Reader → ℕ → ℕ → ℕ
child rd i w = if_lt (role_at rd i w) itemʳ 0 (lower rd i w)

-- What tells a record from others of its kind: a symbol's own record number; the number of a type variable or bound variable, the count of kind 22.
unfoldable pub atom : Reader → ℕ → ℕ
atom rd i = if_true (is_symbol (rd i 0)) i (if_true (is_number (role_at rd i 1)) (rd i 1) 0)

-- one step: record i as a tree, where `sub j` is the tree of record j
unfoldable pub tree_step : Reader → (ℕ → Tree) → ℕ → Tree
tree_step rd sub i = node (rd i 0) (atom rd i) (sub (child rd i 1)) (sub (child rd i 2)) (sub (child rd i 3))

-- record i as a tree; record 0 is none
unfoldable pub tree : Reader → ℕ → Tree
tree rd = down leaf (tree_step rd)

-- the parts of a tree
unfoldable pub kind_of : Tree → ℕ
kind_of leaf = 0
kind_of (node k a x y z) = k

unfoldable pub atom_of : Tree → ℕ
atom_of leaf = 0
atom_of (node k a x y z) = a

unfoldable pub first_of : Tree → Tree
first_of leaf = leaf
first_of (node k a x y z) = x

unfoldable pub second_of : Tree → Tree
second_of leaf = leaf
second_of (node k a x y z) = y

unfoldable pub third_of : Tree → Tree
third_of leaf = leaf
third_of (node k a x y z) = z

-- one kind and one atom
unfoldable pub same_head : ℕ → ℕ → ℕ → ℕ → Bool
same_head k l a b = elim (eqb k l) [ true ↦ eqb a b | false ↦ false ]

-- "Equality of types, terms and formulas is by structure, symbols (given types, constants, functions) by record number."
unfoldable pub same : Tree → Tree → Bool
same leaf leaf = true
same leaf (node k a x y z) = false
same (node k a x y z) leaf = false
same (node k a x y z) (node l b u v w) =
    elim (same_head k l a b) [
      | true ↦ elim (same x u) [ true ↦ elim (same y v) [ true ↦ same z w | false ↦ false ] | false ↦ false ]
      | false ↦ false
    ]

-- Signs, as the rules write them.
infixr 72 ◌∧ᵗ◌
infixr 71 ◌⇒ᵗ◌
infix 74 ◌=ᵗ◌
infix 73 ¬ᵗ◌
abbrev pub ⊥ᵗ : Tree
⊥ᵗ = node kinds.false 0 leaf leaf leaf

abbrev pub ⊤ᵗ : Tree
⊤ᵗ = node kinds.true 0 leaf leaf leaf

abbrev pub ◌∧ᵗ◌ : Tree → Tree → Tree
P ∧ᵗ Q = node kinds.and 0 P Q leaf

abbrev pub ◌⇒ᵗ◌ : Tree → Tree → Tree
P ⇒ᵗ Q = node kinds.implies 0 P Q leaf

abbrev pub ¬ᵗ◌ : Tree → Tree
¬ᵗ P = node kinds.not 0 P leaf leaf

abbrev pub ∀ᵗ : Tree → Tree → Tree
∀ᵗ τ B = node kinds.for_all 0 τ B leaf

abbrev pub ◌=ᵗ◌ : Tree → Tree → Tree
t =ᵗ u = node kinds.equal 0 t u leaf

abbrev pub setᵗ : Tree → Tree
setᵗ τ = node kinds.set_type 0 τ leaf leaf

abbrev pub pairᵗ : Tree → Tree → Tree
pairᵗ τ υ = node kinds.pair_type 0 τ υ leaf
