-- "Types are dropped: records compare without them, ⊤ reads as ¬⊥, kind 22 as its formula, in parts too."
use Rattle.std.specs.Prelude.{ℕ, List, map, Bool, true, eqb}
use Rattle.reader.specs.Words.{Reader}
use Rattle.reader.specs.Tests.{if_eq, if_true}
use Rattle.reader.specs.Kinds.{kinds, typeʳ, typesʳ, role}
use Rattle.reader.specs.Trees.{Tree, leaf, node, tree, ⊥ᵗ, ¬ᵗ◌}
use Rattle.reader.specs.Chains.{parts}

-- word w of a record of kind k names a type, or the chain of own type and type arguments
unfoldable pub is_type : ℕ → ℕ → Bool
is_type k w = if_eq (role k w) typeʳ true (eqb (role k w) typesʳ)

-- the tree at word w of a record of kind k, unless it is a type
unfoldable pub untyped : ℕ → ℕ → Tree → Tree
untyped k w t = if_true (is_type k w) leaf t

-- one step: a node whose parts x, y and z have no types
unfoldable pub bare : ℕ → ℕ → Tree → Tree → Tree → Tree
bare k a x y z = if_eq k kinds.true (¬ᵗ ⊥ᵗ) (if_eq k kinds.for_all_types y (node k a (untyped k 1 x) (untyped k 2 y) (untyped k 3 z)))

-- a tree, types removed
unfoldable pub ⌊◌⌋ : Tree → Tree
⌊ leaf ⌋ = leaf
⌊ node k a x y z ⌋ = bare k a ⌊ x ⌋ ⌊ y ⌋ ⌊ z ⌋

-- record i as a tree, types removed
unfoldable pub bare_tree : Reader → ℕ → Tree
bare_tree rd i = ⌊ tree rd i ⌋

-- the parts of node n, types removed
unfoldable pub bare_parts : Reader → ℕ → List Tree
bare_parts rd n = map (bare_tree rd) (parts rd n)

-- the constant with record number c, its type removed
abbrev pub constantᵇ : ℕ → Tree
constantᵇ c = node kinds.constant c leaf leaf leaf

-- ∀, the type of its bound variable removed
abbrev pub ∀ᵇ : Tree → Tree
∀ᵇ B = node kinds.for_all 0 leaf B leaf
