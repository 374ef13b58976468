-- How deep the comparison of a tree recurses, besides a call for each 64 nodes on the way, which a tree of n nodes has n / 64 of at most: no deeper than the
-- tree's order, which a tree of n nodes has at most as large as n + 1 has bits.
use Rattle.std.specs.Prelude.{ℕ, zero, suc, ◌+◌, ◌<◌, ◌≤◌, ◌≡◌, Bool}
use Rattle.std.proofs.Math.Path.{refl}
use Rattle.std.proofs.Common.{ap}
use Rattle.std.proofs.Math.Bool.{true, false}
use Rattle.std.proofs.lemmas.Bool.{false≢true}
use Rattle.std.proofs.Math.Dec.{eqb, ltb}
use native.Mathlib.Omega.{arith}
use borrow.Author.Tests.{eqb-true, ltb-true, ltb-false}
use Rattle.reader.specs.Tests.{both, either, if_eq, if_lt, if_true}
use Rattle.reader.specs.Trees.{Tree, leaf, node}
use Rattle.reader_closedness.specs.Reach.{larger}
use Rattle.derivation_closedness.specs.Orders.{shared, above, order_above, order, order_low, parts_within, first_second, second_first, first_third, third_first, second_third, third_second}
use Rattle.derivation_closedness.specs.Reaches.{larger_most}
use Rattle.derivation_replacement.specs.Last.{largest}

-- the parts other than part w are compared by a call, part w by the loop
unfoldable pub deepest : ℕ → ℕ → ℕ → ℕ → ℕ
deepest w a b c = if_eq w 1 (larger a (larger (b + 1) (c + 1))) (if_eq w 2 (larger b (larger (a + 1) (c + 1))) (larger c (larger (a + 1) (b + 1))))

unfoldable pub depth : Tree → ℕ
depth leaf = 0
depth (node k a x y z) = deepest (largest (order x) (order y) (order z)) (depth x) (depth y) (depth z)

module _ (a b c p q r : ℕ) (low : order_above a b c < 255) (hp : p ≤ a) (hq : q ≤ b) (hr : r ≤ c) where
  within : (x y z : ℕ) → x ≤ order_above a b c → y < order_above a b c → z < order_above a b c → larger x (larger (y + 1) (z + 1)) ≤ order_above a b c
  within x y z hx hy hz = larger_most x (larger (y + 1) (z + 1)) _ hx (larger_most (y + 1) (z + 1) _ (omega arith) (omega arith))

  deepest_low : deepest (largest a b c) p q r ≤ order_above a b c
  unfolding deepest largest if_lt if_eq
  deepest_low = go (ltb a b) refl (ltb b c) refl (ltb a c) refl
    where
      go : (s : Bool) → ltb a b ≡ s → (t : Bool) → ltb b c ≡ t → (u : Bool) → ltb a c ≡ u →
          deepest (elim s as (λ x. ℕ) [ true ↦ elim t as (λ x. ℕ) [ true ↦ 3 | false ↦ 2 ] | false ↦ elim u as (λ x. ℕ) [ true ↦ 3 | false ↦ 1 ] ]) p q r ≤ order_above a b c
      go true e true f u g =
          let ab = ltb-true a b e in
          let bc = ltb-true b c f in
          let small = first_third a b c low (omega arith) in
          let next = second_third a b c low (omega arith) in
          within r p q (omega (arith, (parts_within a b c low).2)) (omega arith) (omega arith)
      go true e false f u g =
          let ab = ltb-true a b e in
          let cb = ltb-false b c f in
          let small = first_second a b c low (omega arith) in
          let next = third_second a b c low (omega arith) in
          within q p r (omega (arith, (parts_within a b c low).1)) (omega arith) (omega arith)
      go false e t f true g =
          let ba = ltb-false a b e in
          let ac = ltb-true a c g in
          let small = first_third a b c low (omega arith) in
          let next = second_third a b c low (omega arith) in
          within r p q (omega (arith, (parts_within a b c low).2)) (omega arith) (omega arith)
      go false e t f false g =
          let ba = ltb-false a b e in
          let ca = ltb-false a c g in
          let small = second_first a b c low (omega arith) in
          let next = third_first a b c low (omega arith) in
          within p q r (omega (arith, (parts_within a b c low).0)) (omega arith) (omega arith)

-- the recursion goes no deeper than the order
pub depth_low : (t : Tree) → order t < 255 → depth t ≤ order t
unfolding depth order
depth_low leaf h = omega arith
depth_low (node k a x y z) h =
    let parts = parts_within (order x) (order y) (order z) h in
    deepest_low (order x) (order y) (order z) (depth x) (depth y) (depth z) h (depth_low x (omega arith)) (depth_low y (omega arith)) (depth_low z (omega arith))

-- a tree's nodes, the links of its chains and the symbols counted
unfoldable pub size : Tree → ℕ
size leaf = 0
size (node k a x y z) = 1 + size x + size y + size z

unfoldable pub power : ℕ → ℕ
power zero = 1
power (suc n) = power n + power n

power_more : (n : ℕ) → power (n + 1) ≡ power n + power n
unfolding power
power_more n = let e : n + 1 ≡ suc n = omega arith in ap power e

module _ (a b c x y z : ℕ) (ha : power a ≤ x + 1) (hb : power b ≤ y + 1) (hc : power c ≤ z + 1) where
  largest_power : power (larger a (larger b c)) ≤ x + y + z + 1
  unfolding larger if_lt
  largest_power = go (ltb b c) (ltb a (larger b c))
    where
      inner : (s : Bool) → power (elim s as (λ n. ℕ) [ true ↦ c | false ↦ b ]) ≤ x + y + z + 1
      inner true = omega arith
      inner false = omega arith

      go : (s t : Bool) → power (elim t as (λ n. ℕ) [ true ↦ elim s as (λ n. ℕ) [ true ↦ c | false ↦ b ] | false ↦ a ]) ≤ x + y + z + 1
      go s true = inner s
      go s false = omega arith

  shared_power : (m : ℕ) → shared m a b c ≡ true → power m + power m ≤ x + y + z + 2
  unfolding shared if_eq either both
  shared_power m = go (eqb a m) refl (eqb b m) refl (eqb c m) refl
    where
      first : eqb a m ≡ true → power m ≤ x + 1
      first e = rw (← eqb-true a m e) ha

      second : eqb b m ≡ true → power m ≤ y + 1
      second e = rw (← eqb-true b m e) hb

      third : eqb c m ≡ true → power m ≤ z + 1
      third e = rw (← eqb-true c m e) hc

      go : (p : Bool) → eqb a m ≡ p → (q : Bool) → eqb b m ≡ q → (r : Bool) → eqb c m ≡ r →
          elim p as (λ n. Bool) [ true ↦ either q r | false ↦ both q r ] ≡ true → power m + power m ≤ x + y + z + 2
      go true ep true eq r er h = omega (arith, first ep, second eq)
      go true ep false eq true er h = omega (arith, first ep, third er)
      go true ep false eq false er h = absurd (false≢true h)
      go false ep true eq true er h = omega (arith, second eq, third er)
      go false ep true eq false er h = absurd (false≢true h)
      go false ep false eq r er h = absurd (false≢true h)

  above_power : larger a (larger b c) ≤ 255 → power (order_above a b c) ≤ x + y + z + 2
  unfolding order_above above if_lt if_true
  above_power few = go (larger a (larger b c)) largest_power few (shared (larger a (larger b c)) a b c) refl
    where
      go : (m : ℕ) → power m ≤ x + y + z + 1 → m ≤ 255 → (s : Bool) → shared m a b c ≡ s → power (above m s) ≤ x + y + z + 2
      go m h l s e = by_limit (ltb m 255) refl s e
        where
          by_limit : (b' : Bool) → ltb m 255 ≡ b' → (t : Bool) → shared m a b c ≡ t →
              power (elim b' as (λ n. ℕ) [ true ↦ elim t as (λ n. ℕ) [ true ↦ m + 1 | false ↦ m ] | false ↦ 255 ]) ≤ x + y + z + 2
          by_limit true f true g = rw (power_more m) (shared_power m g)
          by_limit true f false g = omega (arith, h)
          by_limit false f t g = let one : 255 ≡ m = omega (arith, ltb-false m 255 f) in rw one (omega (arith, h))

-- a tree of order n has at least 2 to the power n, less 1, nodes
pub order_size : (t : Tree) → power (order t) ≤ size t + 1
unfolding order size power
order_size leaf = omega arith
order_size (node k a x y z) =
    let few = larger_most _ _ 255 (order_low x) (larger_most _ _ 255 (order_low y) (order_low z)) in
    omega (arith, above_power (order x) (order y) (order z) (size x) (size y) (size z) (order_size x) (order_size y) (order_size z) few)
