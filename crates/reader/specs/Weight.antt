-- Weight of types, terms and formulas.
use Rattle.std.specs.Prelude.{ℕ, ◌+◌, Bool, true, false, eqb}
use Rattle.reader.specs.Tests.{if_eq, if_true}
use Rattle.reader.specs.Kinds.{kinds, typeᶜ, termᶜ, formulaᶜ, for_all_typesᶜ, class}
use Rattle.reader.specs.Trees.{Tree, leaf, node}

-- a kind of class type, term, formula, or for all types: "kind 22 weighs as a formula"
unfoldable pub is_weighed : ℕ → Bool
is_weighed k =
    if_eq (class k) typeᶜ true (if_eq (class k) termᶜ true (if_eq (class k) formulaᶜ true (if_eq (class k) for_all_typesᶜ true false)))

-- what a record of kind k weighs itself: "chains read through, functions not counted"
unfoldable pub own_weight : ℕ → ℕ
own_weight k = if_true (is_weighed k) 1 0

-- "constant, given type, variable of type, ⊥, ⊤: 1; every other type, term or formula: 1 plus the weights of the types, terms and formulas
-- that it names, each as often as named": of those with weight 1 only a constant's tree has parts
unfoldable pub weight : Tree → ℕ
weight leaf = 0
weight (node k a x y z) = elim (eqb k kinds.constant) [ true ↦ 1 | false ↦ own_weight k + weight x + weight y + weight z ]
