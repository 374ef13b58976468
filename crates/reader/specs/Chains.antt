-- Chains: links of items, and the records of a name.
use Rattle.std.specs.Prelude.{ℕ, List, [], ◌∷◌, map}
use Rattle.reader.specs.Words.{Reader}
use Rattle.reader.specs.Down.{down}
use Rattle.reader.specs.Trees.{Tree, lower, tree}

-- one step: record i and those after it, where `sub j` are the records from j on
unfoldable pub linked_step : Reader → (ℕ → List ℕ) → ℕ → List ℕ
linked_step rd sub i = i ∷ sub (lower rd i 3)

-- "next link (0 ends)", "next name record (0 ends)": the records of a chain from record i on
unfoldable pub linked : Reader → ℕ → List ℕ
linked rd = down [] (linked_step rd)

-- "item, 0, next link (0 ends)": the items of the chain from link i on
unfoldable pub items : Reader → ℕ → List ℕ
items rd i = map (λ l. lower rd l 1) (linked rd i)

-- the items' trees
unfoldable pub item_trees : Reader → ℕ → List Tree
item_trees rd i = map (tree rd) (items rd i)

-- of a rule node: "chain of parts, chain of premises (each 0 if none)"
unfoldable pub parts : Reader → ℕ → List ℕ
parts rd n = items rd (lower rd n 1)

unfoldable pub premises : Reader → ℕ → List ℕ
premises rd n = items rd (lower rd n 2)
