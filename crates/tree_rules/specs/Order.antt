-- Walk order: "node, then premises in chain order", each subtree whole before the next.
use Rattle.std.specs.Prelude.{ℕ, ◌+◌}
use mathlib.Core.List.{List, [], ◌∷◌, flat_map}
use Rattle.reader.specs.Words.{Reader}
use Rattle.reader.specs.Down.{down}
use Rattle.reader.specs.Chains.{premises}

-- a rule node of the tree: "depth from 0, record number"
pub record Node : Type 0 where
  pub depth : ℕ
  pub number : ℕ

abbrev pub node_at : ℕ → ℕ → Node
node_at depth n = record { depth = depth; number = n }

-- one step: node i, then its premises, one deeper, where `sub j` are the nodes from node j on, by the depth of j
unfoldable pub order_step : Reader → (ℕ → ℕ → List Node) → ℕ → ℕ → List Node
order_step rd sub i depth = node_at depth i ∷ flat_map (λ x. sub x (depth + 1)) (premises rd i)

-- the nodes from node n on, which stands at this depth; record 0 is no node
unfoldable pub order : Reader → ℕ → ℕ → List Node
order rd = down (λ depth. []) (order_step rd)
