-- Laws of walk order: a node before its premises, and the premises from a link of their chain on.
use Prim.Native.Nat.{ℕ, zero, suc, ◌+◌, ◌<◌}
use Rattle.std.specs.Prelude.{◌≡◌}
use Rattle.std.proofs.Math.Path.{ap, fun_ext}
use mathlib.Core.List.{List, [], ◌∷◌, ◌++◌, flat_map}
use native.Mathlib.Omega.{arith}
use Rattle.reader.specs.Words.{Reader}
use Rattle.reader.specs.DownLaws.{Local, down_zero, down_step}
use Rattle.reader.specs.Trees.{lower}
use Rattle.reader.specs.Chains.{items, premises}
use Rattle.reader.specs.TreeLaws.{below, lower_below, items_zero, items_step}
use Rattle.tree_rules.specs.Order.{Node, node_at, order_step, order}

-- the nodes of the items of a chain from link c on, which stand at this depth
unfoldable pub order_from : Reader → ℕ → ℕ → List Node
order_from rd c depth = flat_map (λ x. order rd x depth) (items rd c)

-- what the items of a chain give depends on records below its first link only
module _ (rd : Reader) (f g : ℕ → List Node) where
  chain_local : (c : ℕ) → ((j : ℕ) → j < c → f j ≡ g j) → flat_map f (items rd c) ≡ flat_map g (items rd c)
  unfolding flat_map
  chain_local = below (λ c. ((j : ℕ) → j < c → f j ≡ g j) → flat_map f (items rd c) ≡ flat_map g (items rd c)) step
    where
      step : (c : ℕ) → ((j : ℕ) → j < c → ((k : ℕ) → k < j → f k ≡ g k) → flat_map f (items rd j) ≡ flat_map g (items rd j)) →
          ((j : ℕ) → j < c → f j ≡ g j) → flat_map f (items rd c) ≡ flat_map g (items rd c)
      step zero ih h = rw (items_zero rd)
      step (suc i) ih h =
          let p : 0 < suc i = omega arith in
          let item : lower rd (suc i) 1 < suc i = lower_below rd (suc i) 1 p in
          let rest : lower rd (suc i) 3 < suc i = lower_below rd (suc i) 3 p in
          rw (items_step rd (suc i) p, h (lower rd (suc i) 1) item, ih (lower rd (suc i) 3) rest (λ k q. h k (omega arith)))

module _ (rd : Reader) where
  order_local : Local (order_step rd)
  unfolding order_step premises
  order_local f g i p h =
      fun_ext (λ depth. ap (λ (l : List Node). node_at depth i ∷ l)
      (chain_local rd (λ x. f x (depth + 1)) (λ x. g x (depth + 1)) (lower rd i 2)
      (λ j q. ap (λ (o : ℕ → List Node). o (depth + 1)) (h j (omega (arith, lower_below rd i 2 p))))))

  order_step_lem : (n : ℕ) → 0 < n → order rd n ≡ order_step rd (order rd) n
  unfolding order
  order_step_lem n p = down_step (λ depth. []) (order_step rd) order_local n p

  pub order_zero : (depth : ℕ) → order rd 0 depth ≡ []
  unfolding order
  order_zero depth = ap (λ (o : ℕ → List Node). o depth) (down_zero (λ depth. []) (order_step rd))

  -- a node, then its premises
  pub order_node : (n depth : ℕ) → 0 < n → order rd n depth ≡ node_at depth n ∷ order_from rd (lower rd n 2) (depth + 1)
  unfolding order_step order_from premises
  order_node n depth p = ap (λ (o : ℕ → List Node). o depth) (order_step_lem n p)

  pub order_end : (depth : ℕ) → order_from rd 0 depth ≡ []
  unfolding order_from flat_map
  order_end depth = rw (items_zero rd)

  -- the item of a link, then those of the links after it
  pub order_link : (c depth : ℕ) → 0 < c → order_from rd c depth ≡ order rd (lower rd c 1) depth ++ order_from rd (lower rd c 3) depth
  unfolding order_from flat_map
  order_link c depth p = rw (items_step rd c p)
