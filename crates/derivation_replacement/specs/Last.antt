-- The part of a tree that is compared last, one of the largest order, and the ways out of the code that finds it by keys.
use Prim.Native.Nat.{ℕ, zero, suc, ◌-◌, ◌/◌, ◌%◌, ◌<◌, ◌≤◌}
use Rattle.std.specs.Prelude.{◌≡◌, List, Bool, true, false, eqb, ltb, get_or}
use Rattle.std.proofs.Math.Path.{refl}
use Rattle.std.proofs.Common.{sym, ◌∙◌, arith, eqb-true, ltb-true, ltb-false}
use Rattle.std.proofs.Math.ListN.{length}
use Rattle.std.proofs.lemmas.Bool.{eqb-false}
use Rattle.reader.specs.Words.{Reader}
use Rattle.reader.specs.Tests.{if_eq, if_lt}
use Rattle.reader.specs.TestLaws.{eq_yes, eq_no, lt_yes, lt_no}
use Rattle.reader.specs.Trees.{Tree, leaf, ⊥ᵗ}
use Rattle.derivation_trees.specs.Keys.{negations_of, body_of, body_tree, negate, decoded, Normal, by_body, body_none, body_bottom, body_record}
use Rattle.derivation_trees.specs.Erased.{Plain, bare_plain}
use Rattle.derivation_trees.specs.Parts.{Part, part_of, as_none, body_in}
use Rattle.derivation_closedness.specs.Orders.{order, order_some, order_single, order_not}
use Rattle.derivation_paths.specs.Tables.{Tables}

-- which of three orders is the largest, the first such one
unfoldable pub largest : ℕ → ℕ → ℕ → ℕ
largest a b c = if_lt a b (if_lt b c 3 2) (if_lt a c 3 1)

-- what the table has as the order of a key: 0 for the empty tree, 1 for ⊥ with any ¬ before it
unfoldable pub order_in : List ℕ → ℕ → ℕ
order_in reaches j = if_eq j 0 0 (if_lt (j % 262144) 2 1 (get_or reaches (j % 262144 - 1) 0 / 256))

unfoldable pub last_part : Reader → ℕ → ℕ
last_part rd j = largest (order (part_of 1 (decoded rd j))) (order (part_of 2 (decoded rd j))) (order (part_of 3 (decoded rd j)))

-- The ways out of `largest_of`.
module _ (a b c : ℕ) where
  pub largest_third : a < b → b < c → 3 ≡ largest a b c
  unfolding largest
  largest_third p q = lt_yes a b (if_lt b c 3 2) (if_lt a c 3 1) 3 p (lt_yes b c 3 2 3 q refl)

  pub largest_second : a < b → c ≤ b → 2 ≡ largest a b c
  unfolding largest
  largest_second p q = lt_yes a b (if_lt b c 3 2) (if_lt a c 3 1) 2 p (lt_no b c 3 2 2 q refl)

  pub largest_last : b ≤ a → a < c → 3 ≡ largest a b c
  unfolding largest
  largest_last p q = lt_no a b (if_lt b c 3 2) (if_lt a c 3 1) 3 p (lt_yes a c 3 1 3 q refl)

  pub largest_first : b ≤ a → c ≤ a → 1 ≡ largest a b c
  unfolding largest
  largest_first p q = lt_no a b (if_lt b c 3 2) (if_lt a c 3 1) 1 p (lt_no a c 3 1 1 q refl)

-- ¬ before a tree that is no leaf leaves its order.
order_negate : (n : ℕ) (t : Tree) → 0 < order t → order (negate n t) ≡ order t
unfolding negate
order_negate zero t h = refl
order_negate (suc n) t h =
    let less : order (negate n t) ≡ order t = order_negate n t h in
    order_not (negate n t) (omega arith) ∙ less

order_negations : (n : ℕ) → order (negate (suc n) leaf) ≡ 1
unfolding negate
order_negations zero = order_single 18 0
order_negations (suc n) =
    let less : order (negate (suc n) leaf) ≡ 1 = order_negations n in
    order_not (negate (suc n) leaf) (omega arith) ∙ less

-- The order of a key's tree, by the table.
module _ (rd : Reader) (j : ℕ) where
  key_none : j ≡ 0 → 0 ≡ order (decoded rd j)
  unfolding order
  key_none h = rw (as_none rd j h) refl

  body_order : (n b : ℕ) → 0 < order (body_tree rd b) → order (body_tree rd b) ≡ order (negate n (body_tree rd b))
  body_order n b h = sym (order_negate n (body_tree rd b) h)

  sign_order : (n b : ℕ) → (b ≡ 0 → 0 < n) → b < 2 → 1 ≡ order (negate n (body_tree rd b))
  sign_order n b some h = by_body b
      (λ e. rw (body_none rd b e) (go n (some e)))
      (λ e. rw (body_bottom rd b e) (sym (order_negate n ⊥ᵗ (order_some 14 0 leaf leaf leaf) ∙ order_single 14 0)))
      (λ e. absurd (omega arith))
    where
      go : (k : ℕ) → 0 < k → 1 ≡ order (negate k leaf)
      go zero p = absurd (omega arith)
      go (suc k) p = sym (order_negations k)

  module _ (b : ℕ) (eb : b ≡ j % 262144) where
    key_sign : (j ≡ 0 → ⊥) → b < 2 → 1 ≡ order (decoded rd j)
    unfolding decoded negations_of body_of
    key_sign some h = rw (← eb) (sign_order (j / 262144) b (λ e. omega arith) h)

    key_record : (size : ℕ) (keys reaches : List ℕ) (r : ℕ) → size ≡ length keys → Normal rd size j → Tables rd keys reaches → 2 ≤ b →
        r ≡ get_or reaches (b - 1) 0 / 256 → r ≡ order (decoded rd j)
    unfolding decoded negations_of body_of
    key_record size keys reaches r es normal tables h e =
        let i : ℕ = b - 1 in
        let inside : i < length reaches = body_in rd size j b (length reaches) normal eb h (omega (arith, tables.room)) in
        let known : r ≡ order (body_tree rd b) = rw (body_record rd b h) (e ∙ tables.reached.ordered i inside) in
        let some : 0 < order (body_tree rd b) = rw (body_record rd b h, bare_plain rd i (omega arith) (normal_plain normal)) (order_some _ _ _ _ _) in
        rw (← eb) (known ∙ body_order (j / 262144) b some)
      where
        normal_plain : Normal rd size j → Plain (rd (b - 1) 0)
        normal_plain n = rw (← eb) at (n.plain (omega (arith, eb, h)))

-- The ways out of `order_of`.
module _ (reaches : List ℕ) (j : ℕ) where
  pub in_none : j ≡ 0 → 0 ≡ order_in reaches j
  unfolding order_in
  in_none h = eq_yes j 0 0 _ 0 h refl

  module _ (some : j ≡ 0 → ⊥) (b : ℕ) (eb : b ≡ j % 262144) where
    pub in_sign : b < 2 → 1 ≡ order_in reaches j
    unfolding order_in
    in_sign h = eq_no j 0 0 _ 1 some (lt_yes (j % 262144) 2 1 _ 1 (omega arith) refl)

    pub in_record : 2 ≤ b → (r : ℕ) → r ≡ get_or reaches (b - 1) 0 / 256 → r ≡ order_in reaches j
    unfolding order_in
    in_record h r e = eq_no j 0 0 _ r some (lt_no (j % 262144) 2 1 _ r (omega arith) (rw (← eb) e))

-- what the table has is the order of the key's tree
order_in_is : (rd : Reader) (keys reaches : List ℕ) (j r : ℕ) → Tables rd keys reaches → Normal rd (length keys) j → r ≡ order_in reaches j → r ≡ order (decoded rd j)
order_in_is rd keys reaches j r tables normal e = by_none (eqb j 0) refl
  where
    by_body_of : (j ≡ 0 → ⊥) → (s : Bool) → ltb (j % 262144) 2 ≡ s → r ≡ order (decoded rd j)
    by_body_of some true q =
        let low : j % 262144 < 2 = ltb-true (j % 262144) 2 q in
        e ∙ sym (in_sign reaches j some (j % 262144) refl low) ∙ key_sign rd j (j % 262144) refl some low
    by_body_of some false q =
        let high : 2 ≤ j % 262144 = ltb-false (j % 262144) 2 q in
        e ∙ sym (in_record reaches j some (j % 262144) refl high _ refl) ∙ key_record rd j (j % 262144) refl (length keys) keys reaches _ refl normal tables high refl

    by_none : (s : Bool) → eqb j 0 ≡ s → r ≡ order (decoded rd j)
    by_none true q = let none : j ≡ 0 = eqb-true j 0 q in e ∙ sym (in_none reaches j none) ∙ key_none rd j none
    by_none false q = by_body_of (eqb-false j 0 q) (ltb (j % 262144) 2) refl

-- The way out of `last_part`: x, y and z are the keys of the parts, and a, b and c their orders.
pub last_made : (rd : Reader) (keys reaches : List ℕ) (j x y z a b c r : ℕ) → Tables rd keys reaches →
    Part rd (length keys) j x (part_of 1 (decoded rd j)) → a ≡ order_in reaches x → Part rd (length keys) j y (part_of 2 (decoded rd j)) → b ≡ order_in reaches y →
    Part rd (length keys) j z (part_of 3 (decoded rd j)) → c ≡ order_in reaches z → r ≡ largest a b c → r ≡ last_part rd j
unfolding last_part
last_made rd keys reaches j x y z a b c r tables px ea py eb pz ec er =
    let first = order_in_is rd keys reaches x a tables px.stands.normal ea in
    let second = order_in_is rd keys reaches y b tables py.stands.normal eb in
    let third = order_in_is rd keys reaches z c tables pz.stands.normal ec in
    rw (← px.stands.means, ← py.stands.means, ← pz.stands.means, ← first, ← second, ← third) er
