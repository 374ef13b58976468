-- Bound variables, type variables and constants in trees: replacement, closedness, occurrence.
use Rattle.std.specs.Prelude.{ℕ, ◌+◌, List, Bool, true, false, eqb, ltb, get_or}
use Rattle.reader.specs.Tests.{both}
use Rattle.reader.specs.Kinds.{kinds}
use Rattle.reader.specs.Trees.{Tree, leaf, node, same}

-- how many binders word 2 of a record of kind k stands under: "Index 0 means the nearest enclosing ∀."
unfoldable pub binders : ℕ → ℕ
binders k = elim (eqb k kinds.for_all) [ true ↦ 1 | false ↦ 0 ]

-- a node of kind k and atom a is the bound variable with index d
unfoldable pub is_index : ℕ → ℕ → ℕ → Bool
is_index k a d = elim (eqb k kinds.bound_variable) [ true ↦ eqb a d | false ↦ false ]

-- "B(t) is B with index 0 replaced", counting the binders crossed: the tree with t in place of index d
unfoldable pub replaced : ℕ → Tree → Tree → Tree
replaced d t leaf = leaf
replaced d t (node k a x y z) =
    elim (is_index k a d) [ true ↦ t | false ↦ node k a (replaced d t x) (replaced (d + binders k) t y) (replaced d t z) ]

-- every occurrence of index d bears the type τ
unfoldable pub bears : ℕ → Tree → Tree → Bool
bears d τ leaf = true
bears d τ (node k a x y z) =
    elim (is_index k a d) [
      | true ↦ same y τ
      | false ↦ elim (bears d τ x) [ true ↦ elim (bears (d + binders k) τ y) [ true ↦ bears d τ z | false ↦ false ] | false ↦ false ]
    ]

-- a node of kind k and atom a is no bound variable with an index from d on
unfoldable pub index_below : ℕ → ℕ → ℕ → Bool
index_below k a d = elim (eqb k kinds.bound_variable) [ true ↦ ltb a d | false ↦ true ]

-- "no unbound index": every index is below d, or bound in the tree
unfoldable pub indices_below : ℕ → Tree → Bool
indices_below d leaf = true
indices_below d (node k a x y z) =
    elim (index_below k a d) [
      | true ↦ elim (indices_below d x) [ true ↦ elim (indices_below (d + binders k) y) [ true ↦ indices_below d z | false ↦ false ] | false ↦ false ]
      | false ↦ false
    ]

-- a node of kind k and atom a is no type variable with a number from p on
unfoldable pub type_variable_below : ℕ → ℕ → ℕ → Bool
type_variable_below k a p = elim (eqb k kinds.type_variable) [ true ↦ ltb a p | false ↦ true ]

-- "only variables below their parameter count": every type variable is below p
unfoldable pub types_below : ℕ → Tree → Bool
types_below p leaf = true
types_below p (node k a x y z) =
    elim (type_variable_below k a p) [
      | true ↦ elim (types_below p x) [ true ↦ elim (types_below p y) [ true ↦ types_below p z | false ↦ false ] | false ↦ false ]
      | false ↦ false
    ]

-- "closed: no unbound index, no type variable"
unfoldable pub is_closed : Tree → Bool
is_closed t = both (indices_below 0 t) (types_below 0 t)

-- a node of kind k and atom a is the constant c
unfoldable pub is_constant : ℕ → ℕ → ℕ → Bool
is_constant k a c = elim (eqb k kinds.constant) [ true ↦ eqb a c | false ↦ false ]

-- the constant with record number c is in the tree
unfoldable pub occurs : ℕ → Tree → Bool
occurs c leaf = false
occurs c (node k a x y z) =
    elim (is_constant k a c) [
      | true ↦ true
      | false ↦ elim (occurs c x) [ true ↦ true | false ↦ elim (occurs c y) [ true ↦ true | false ↦ occurs c z ] ]
    ]

-- the tree with the types put in place of the type variables, all at once, the first for variable 0; a variable past them stays
unfoldable pub instance : List Tree → Tree → Tree
instance types leaf = leaf
instance types (node k a x y z) =
    elim (eqb k kinds.type_variable) [
      | true ↦ get_or types a (node k a x y z)
      | false ↦ node k a (instance types x) (instance types y) (instance types z)
    ]
