-- Signs that the rules name beside the formulas' signs: a constant, and a hypothesis for all types.
use Rattle.std.specs.Prelude.{ℕ}
use Rattle.reader.specs.Trees.{Tree, leaf, node}

-- the constant with record number c, of type τ
abbrev pub constantᵗ : ℕ → Tree → Tree
constantᵗ c τ = node 7 c τ leaf leaf

-- kind 22: the formula P for all types of its first m type variables
abbrev pub for_typesᵗ : ℕ → Tree → Tree
for_typesᵗ m P = node 22 m leaf P leaf
