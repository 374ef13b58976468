-- The walk of any calculus, as `Walk` has it, with the nodes entered instead of their number.
use Rattle.std.specs.Prelude.{ℕ, ◌+◌, ◌≡◌, List, [], ◌∷◌, ◌++◌, Bool, true, false, eqb}
use Rattle.reader.specs.Words.{Reader}
use Rattle.reader.specs.Down.{down}
use Rattle.reader.specs.Trees.{lower}
use Rattle.tree_rules.specs.Order.{Node, node_at}

-- what a walk enters: the nodes, in its order, and whether all of them pass their tests
pub record Visit : Type 0 where
  pub passes : Bool
  pub nodes : List Node

-- a node, and then others
abbrev pub with_first : Node → Visit → Visit
with_first node v = record { passes = v.passes; nodes = node ∷ v.nodes }

-- nodes, and where they all pass, others
unfoldable pub go_on : Visit → Visit → Visit
go_on v rest = elim v.passes [ true ↦ record { passes = rest.passes; nodes = v.nodes ++ rest.nodes } | false ↦ v ]

-- the walk at a record, at a depth: as a node, and as a link of the chain of premises of node n, from premise b on
pub record Visits (S : Type 0) : Type 0 where
  pub node : S → ℕ → Visit
  pub link : ℕ → ℕ → S → ℕ → Visit

module _ {S : Type 0} (rd : Reader) (fault : S → ℕ → ℕ) (next : S → ℕ → ℕ → S) where
  -- node n is entered; where it passes its tests, so are its premises, one deeper
  unfoldable pub visit_node : Visits S → ℕ → S → ℕ → Visit
  visit_node chain n state depth =
      elim (eqb (fault state n) 0) [
        | true ↦ with_first (node_at depth n) (chain.link n 0 state (depth + 1))
        | false ↦ record { passes = false; nodes = node_at depth n ∷ [] }
      ]

  -- at a link: the walk at its item, and then at the next link
  unfoldable pub visit_link : Visits S → Visits S → ℕ → ℕ → S → ℕ → Visit
  visit_link item rest n b state depth = go_on (item.node (next state n b) depth) (rest.link n (b + 1) state depth)

  unfoldable pub visit_step : (ℕ → Visits S) → ℕ → Visits S
  visit_step sub i = record { node = visit_node (sub (lower rd i 2)) i; link = visit_link (sub (lower rd i 1)) (sub (lower rd i 3)) }

  -- record 0 is no node, and ends a chain
  abbrev pub no_visits : Visits S
  no_visits = record {
    node = λ state depth. record { passes = false; nodes = [] };
    link = λ n b state depth. record { passes = true; nodes = [] };
  }

  unfoldable pub visits : ℕ → Visits S
  visits = down no_visits visit_step

  -- the nodes that the walk enters from node n on, which stands at this depth
  unfoldable pub visit_from : ℕ → S → ℕ → Visit
  visit_from n = (visits n).node

-- the last of the nodes is record r
pub record EndsAt (r : ℕ) (nodes : List Node) : Type 0 where
  pub first : List Node
  pub depth : ℕ
  pub whole : nodes ≡ first ++ (node_at depth r ∷ [])
