-- The order of a tree, and the ways out of the code that computes it for a record. A recursion into all parts of a tree but one of the largest order, which a
-- loop takes, is no deeper than the tree's order: a part whose order is the tree's own is the only such part, and the others have less.
use Rattle.std.specs.Prelude.{ℕ, zero, suc, ◌+◌, ◌<◌, ◌≤◌, ◌≡◌, Bool, ltb}
use Rattle.std.proofs.Math.Path.{refl, sym}
use Rattle.std.proofs.Common.{◌∙◌, arith}
use Rattle.std.proofs.Math.Bool.{true, false}
use Rattle.std.proofs.Math.Dec.{eqb}
use borrow.Author.Tests.{eq-eqb, ne_eqb, eqb-true, eqb-false, lt-ltb, le-ltb, ltb-true, ltb-false}
use Rattle.reader.specs.Words.{Reader}
use Rattle.reader.specs.Tests.{both, either, if_eq, if_lt, if_true}
use Rattle.reader.specs.Trees.{Tree, leaf, node, ⊥ᵗ, ¬ᵗ◌}
use Rattle.reader_closedness.specs.Reach.{larger}
use Rattle.reader_equality.specs.Keys.{part_at}
use Rattle.derivation_rules.specs.Erase.{bare_tree}
use Rattle.derivation_trees.specs.Erased.{bare_zero, bare_true, bare_all, bare_node}
use Rattle.derivation_closedness.specs.Parts.{true_first, true_second, true_third, all_second}

-- two of the orders a, b and c are the largest
unfoldable pub shared : ℕ → ℕ → ℕ → ℕ → Bool
shared most a b c = if_eq a most (either (eqb b most) (eqb c most)) (both (eqb b most) (eqb c most))

-- the largest order, one more where two parts have it; no more than 255, the largest that an entry of the table holds
unfoldable pub above : ℕ → Bool → ℕ
above most twice = if_lt most 255 (if_true twice (most + 1) most) 255

unfoldable pub order_above : ℕ → ℕ → ℕ → ℕ
order_above a b c = above (larger a (larger b c)) (shared (larger a (larger b c)) a b c)

unfoldable pub order : Tree → ℕ
order leaf = 0
order (node k a x y z) = order_above (order x) (order y) (order z)

-- the order of part w of record i
unfoldable pub part_order : Reader → ℕ → ℕ → ℕ
part_order rd i w = order (bare_tree rd (part_at rd false i w))

-- The ways out of `is_shared`.
module _ (most a b c : ℕ) where
  pub shared_two : a ≡ most → b ≡ most → true ≡ shared most a b c
  unfolding shared if_eq either
  shared_two h p = simp (shared, if_eq, either, eq-eqb a most h, eq-eqb b most p)

  pub shared_third : a ≡ most → (b ≡ most → ⊥) → eqb c most ≡ shared most a b c
  unfolding shared if_eq either
  shared_third h p = simp (shared, if_eq, either, eq-eqb a most h, ne_eqb b most p)

  pub shared_less : (a ≡ most → ⊥) → (b ≡ most → ⊥) → false ≡ shared most a b c
  unfolding shared if_eq both
  shared_less h p = simp (shared, if_eq, both, ne_eqb a most h, ne_eqb b most p)

  pub shared_last : (a ≡ most → ⊥) → b ≡ most → eqb c most ≡ shared most a b c
  unfolding shared if_eq both
  shared_last h p = simp (shared, if_eq, both, ne_eqb a most h, eq-eqb b most p)

-- whichever two
shared_outer : (most a b c : ℕ) → a ≡ most → c ≡ most → shared most a b c ≡ true
shared_outer most a b c p q = go (eqb b most) refl
  where
    go : (s : Bool) → eqb b most ≡ s → shared most a b c ≡ true
    go true e = sym (shared_two most a b c p (eqb-true b most e))
    go false e = sym (shared_third most a b c p (eqb-false b most e)) ∙ eq-eqb c most q

shared_inner : (most a b c : ℕ) → b ≡ most → c ≡ most → shared most a b c ≡ true
shared_inner most a b c p q = go (eqb a most) refl
  where
    go : (s : Bool) → eqb a most ≡ s → shared most a b c ≡ true
    go true e = sym (shared_two most a b c (eqb-true a most e) p)
    go false e = sym (shared_last most a b c (eqb-false a most e) p) ∙ eq-eqb c most q

-- The ways out of `order_above`.
module _ (a b c p most : ℕ) (ep : p ≡ larger b c) (em : most ≡ larger a p) where
  largest : most ≡ larger a (larger b c)
  largest = rw (← ep) em

  pub above_most : 255 ≤ most → 255 ≡ order_above a b c
  unfolding order_above above if_lt
  above_most h = rw (← largest) (simp (above, if_lt, le-ltb most 255 h))

  module _ (low : most < 255) (s : Bool) (es : s ≡ shared most a b c) where
    pub above_shared : s ≡ true → most + 1 ≡ order_above a b c
    unfolding order_above above if_lt if_true
    above_shared h = rw (← largest, ← es, h) (simp (above, if_lt, if_true, lt-ltb most 255 low))

    pub above_alone : s ≡ false → most ≡ order_above a b c
    unfolding order_above above if_lt if_true
    above_alone h = rw (← largest, ← es, h) (simp (above, if_lt, if_true, lt-ltb most 255 low))

-- An order is no more than 255, and that of a node no less than 1.
above_low : (most : ℕ) (twice : Bool) → above most twice ≤ 255
unfolding above if_lt if_true
above_low most twice = go (ltb most 255) refl twice
  where
    go : (b : Bool) → ltb most 255 ≡ b → (s : Bool) → elim b as (λ x. ℕ) [ true ↦ elim s as (λ x. ℕ) [ true ↦ most + 1 | false ↦ most ] | false ↦ 255 ] ≤ 255
    go true e true = omega (arith, ltb-true most 255 e)
    go true e false = omega (arith, ltb-true most 255 e)
    go false e s = omega arith

pub order_low : (t : Tree) → order t ≤ 255
unfolding order order_above
order_low leaf = omega arith
order_low (node k a x y z) = above_low _ _

pub order_limit : (t : Tree) (o : ℕ) → o ≡ order t → o ≤ 255
order_limit t o e = omega (arith, order_low t)

larger_both : (a b : ℕ) → (a ≤ larger a b) × (b ≤ larger a b)
unfolding larger if_lt
larger_both a b = go (ltb a b) refl
  where
    go : (s : Bool) → ltb a b ≡ s → (a ≤ elim s as (λ x. ℕ) [ true ↦ b | false ↦ a ]) × (b ≤ elim s as (λ x. ℕ) [ true ↦ b | false ↦ a ])
    go true e = (omega (arith, ltb-true a b e), omega arith)
    go false e = (omega arith, ltb-false a b e)

-- no order at all is shared by all three
above_some : (a b c : ℕ) → 0 < order_above a b c
unfolding order_above above if_lt if_true
above_some a b c = go (larger a (larger b c)) refl
  where
    first : a ≤ larger a (larger b c)
    first = (larger_both a (larger b c)).0

    second : b ≤ larger a (larger b c)
    second = omega (arith, (larger_both b c).0, (larger_both a (larger b c)).1)

    by_limit : (most : ℕ) (s : Bool) → 0 < most → (l : Bool) → 0 < elim l as (λ x. ℕ) [ true ↦ elim s as (λ x. ℕ) [ true ↦ most + 1 | false ↦ most ] | false ↦ 255 ]
    by_limit most true h true = omega arith
    by_limit most false h true = h
    by_limit most s h false = omega arith

    go : (most : ℕ) → larger a (larger b c) ≡ most → 0 < above most (shared most a b c)
    go zero e = rw (← shared_two 0 a b c (omega (arith, first)) (omega (arith, second))) (omega arith)
    go (suc most) e = by_limit (suc most) (shared (suc most) a b c) (omega arith) (ltb (suc most) 255)

pub order_some : (k a : ℕ) (x y z : Tree) → 0 < order (node k a x y z)
unfolding order
order_some k a x y z = above_some (order x) (order y) (order z)

pub order_single : (k a : ℕ) → order (node k a leaf leaf leaf) ≡ 1
unfolding order order_above above shared larger if_lt if_true if_eq either
order_single k a = refl

-- No part has a larger order than its tree; and of two parts the one that has no larger order than the other has a smaller one than the tree.
above_keeps : (most : ℕ) (twice : Bool) → most ≤ 255 → most ≤ above most twice
unfolding above if_lt if_true
above_keeps most twice h = go (ltb most 255) refl twice
  where
    go : (b : Bool) → ltb most 255 ≡ b → (s : Bool) → most ≤ elim b as (λ x. ℕ) [ true ↦ elim s as (λ x. ℕ) [ true ↦ most + 1 | false ↦ most ] | false ↦ 255 ]
    go true e true = omega arith
    go true e false = omega arith
    go false e s = h

above_few : (most : ℕ) (twice : Bool) → above most twice < 255 → most ≤ 255
unfolding above if_lt
above_few most twice = go (ltb most 255) refl
  where
    go : (b : Bool) → ltb most 255 ≡ b → elim b as (λ x. ℕ) [ true ↦ if_true twice (most + 1) most | false ↦ 255 ] < 255 → most ≤ 255
    go true e h = omega (arith, ltb-true most 255 e)
    go false e h = absurd (omega arith)

above_raises : (most : ℕ) (twice : Bool) → twice ≡ true → above most twice < 255 → most < above most twice
unfolding above if_lt if_true
above_raises most twice e = rw e (go (ltb most 255) refl)
  where
    go : (b : Bool) → ltb most 255 ≡ b → elim b as (λ x. ℕ) [ true ↦ most + 1 | false ↦ 255 ] < 255 → most < elim b as (λ x. ℕ) [ true ↦ most + 1 | false ↦ 255 ]
    go true l h = omega arith
    go false l h = absurd (omega arith)

below_pair : (u v most : ℕ) (twice : Bool) → u ≤ v → v ≤ most → (u ≡ most → v ≡ most → twice ≡ true) → above most twice < 255 → u < above most twice
below_pair u v most twice h k pair low = go (ltb u most) refl
  where
    few : most ≤ 255
    few = above_few most twice low

    go : (b : Bool) → ltb u most ≡ b → u < above most twice
    go true e = omega (arith, ltb-true u most e, above_keeps most twice few)
    go false e =
        let one : u ≡ most = omega (arith, ltb-false u most e) in
        let other : v ≡ most = omega arith in
        omega (arith, above_raises most twice (pair one other) low)

module _ (a b c : ℕ) (low : order_above a b c < 255) where
  most_first : a ≤ larger a (larger b c)
  most_first = (larger_both a (larger b c)).0

  most_second : b ≤ larger a (larger b c)
  most_second = omega (arith, (larger_both b c).0, (larger_both a (larger b c)).1)

  most_third : c ≤ larger a (larger b c)
  most_third = omega (arith, (larger_both b c).1, (larger_both a (larger b c)).1)

  pub parts_within : (a ≤ order_above a b c) × (b ≤ order_above a b c) × (c ≤ order_above a b c)
  unfolding order_above
  parts_within =
      let few = above_few _ _ low in
      let kept = above_keeps _ (shared (larger a (larger b c)) a b c) few in
      (omega (arith, kept, most_first), omega (arith, kept, most_second), omega (arith, kept, most_third))

  pub first_second : a ≤ b → a < order_above a b c
  unfolding order_above
  first_second h = below_pair a b _ _ h most_second (λ p q. sym (shared_two _ a b c p q)) low

  pub second_first : b ≤ a → b < order_above a b c
  unfolding order_above
  second_first h = below_pair b a _ _ h most_first (λ p q. sym (shared_two _ a b c q p)) low

  pub first_third : a ≤ c → a < order_above a b c
  unfolding order_above
  first_third h = below_pair a c _ _ h most_third (λ p q. shared_outer _ a b c p q) low

  pub third_first : c ≤ a → c < order_above a b c
  unfolding order_above
  third_first h = below_pair c a _ _ h most_first (λ p q. shared_outer _ a b c q p) low

  pub second_third : b ≤ c → b < order_above a b c
  unfolding order_above
  second_third h = below_pair b c _ _ h most_third (λ p q. shared_inner _ a b c p q) low

  pub third_second : c ≤ b → c < order_above a b c
  unfolding order_above
  third_second h = below_pair c b _ _ h most_second (λ p q. shared_inner _ a b c q p) low

-- ¬ leaves the order of what is no leaf
one_most : (a : ℕ) → larger a (larger 0 0) ≡ a
unfolding larger if_lt
one_most a = simp (larger, if_lt, le-ltb a 0 (omega arith))

one_alone : (a : ℕ) → 0 < a → shared a a 0 0 ≡ false
unfolding shared if_eq either
one_alone a p = simp (shared, if_eq, either, eq-eqb a a refl, ne_eqb 0 a (λ e. omega arith))

above_one : (a : ℕ) → 0 < a → a ≤ 255 → order_above a 0 0 ≡ a
unfolding order_above above if_lt if_true
above_one a p h = rw (one_most a, one_alone a p) (go (ltb a 255) refl)
  where
    go : (b : Bool) → ltb a 255 ≡ b → elim b as (λ x. ℕ) [ true ↦ a | false ↦ 255 ] ≡ a
    go true e = refl
    go false e = omega (arith, ltb-false a 255 e)

pub order_not : (t : Tree) → 0 < order t → order (¬ᵗ t) ≡ order t
unfolding order
order_not t h = above_one (order t) h (order_low t)

-- The ways out of `order_of`.
pub order_none : (rd : Reader) (i : ℕ) → i ≡ 0 → 0 ≡ order (bare_tree rd i)
unfolding order
order_none rd i h = rw (h, bare_zero rd) refl

module _ (rd : Reader) (i k : ℕ) (p : 0 < i) (ek : k ≡ rd i 0) where
  order_true : k ≡ 15 → 1 ≡ order (bare_tree rd i)
  order_true h = rw (bare_true rd i p (sym ek ∙ h), order_not ⊥ᵗ (order_some 14 0 leaf leaf leaf)) (sym (order_single 14 0))

  pub order_all : (r : ℕ) → k ≡ 22 → r ≡ part_order rd i 2 → r ≡ order (bare_tree rd i)
  unfolding part_order
  order_all r h er = let all : rd i 0 ≡ 22 = sym ek ∙ h in rw (bare_all rd i p all, ← all_second rd i all) er

  -- ⊤ by its parts, of which there are none, and other kinds
  pub order_node : (x y z r : ℕ) → (k ≡ 22 → ⊥) → x ≡ part_order rd i 1 → y ≡ part_order rd i 2 → z ≡ part_order rd i 3 →
      r ≡ order_above x y z → r ≡ order (bare_tree rd i)
  unfolding order part_order order_above above shared larger if_lt if_true if_eq either
  order_node x y z r no_all ex ey ez er = go (eqb k 15) refl
    where
      go : (b : Bool) → eqb k 15 ≡ b → r ≡ order (bare_tree rd i)
      go true t =
          let top : rd i 0 ≡ 15 = sym ek ∙ eqb-true k 15 t in
          let one : r ≡ 1 = er ∙ rw (ex, ey, ez, true_first rd i top, true_second rd i top, true_third rd i top, bare_zero rd) refl in
          one ∙ order_true (eqb-true k 15 t)
      go false t =
          rw (bare_node rd i p (λ h. eqb-false k 15 t (ek ∙ h)) (λ h. no_all (ek ∙ h)), ← ex, ← ey, ← ez) er
