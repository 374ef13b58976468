-- Types of terms by record, and the ways out of the code that tests the typing of constants, pairs, products, powersets, choices, ∀, = and ∈.
use Rattle.std.specs.Prelude.{ℕ, zero, suc, ◌≤◌, ◌≡◌, Bool, true, false, eqb}
use Rattle.std.proofs.Math.Path.{refl}
use Rattle.std.proofs.Common.{arith}
use borrow.Author.Tests.{eq-eqb, ne_eqb, eqb-true}
use Rattle.reader.specs.Words.{Reader}
use Rattle.reader.specs.Tests.{both, if_eq, if_lt}
use Rattle.reader.specs.Kinds.{role}
use Rattle.reader.specs.Trees.{Tree, lower, child, tree, kind_of, first_of, second_of, same}
use Rattle.reader.specs.Variables.{bears, types_below}
use Rattle.reader.specs.Typing.{type_of, constant_typed, pair_typed, product_typed, powerset_typed, choice_typed, for_all_typed, equal_typed, member_typed}
use Rattle.reader.specs.TreeLaws.{tree_zero, tree_step_lem}
use Rattle.reader_chains.specs.Shapes.{lower_zero, child_zero, child_lower, first_tree, second_tree, third_tree}
use Rattle.reader_types.specs.SetsAndPairs.{is_set_of, is_pair_of, is_set_of_pair}

-- the record of the type of term i, where its kind is k
unfoldable pub type_by : ℕ → Reader → ℕ → ℕ
type_by k rd i =
    if_eq k 7 (lower rd i 1)
    (if_eq k 9 (lower rd i 2)
    (if_eq k 10 (lower rd i 3)
    (if_eq k 11 (lower rd i 3)
    (if_eq k 12 (lower rd i 2) (if_eq k 13 (child rd (lower rd i 2) 1) (if_eq k 23 (lower rd i 2) 0))))))

-- the record of term i's type: 0 where i is no term
unfoldable pub type_at : Reader → ℕ → ℕ
type_at rd i = type_by (rd i 0) rd i

-- the type of the term that word w of record i refers to
unfoldable pub part_type : Reader → ℕ → ℕ → ℕ
part_type rd i w = type_at rd (child rd i w)

-- the tree of one record or another
tree_if : (rd : Reader) (a b x y : ℕ) (u v : Tree) → (a ≡ b → tree rd x ≡ u) → tree rd y ≡ v → tree rd (if_eq a b x y) ≡ if_eq a b u v
unfolding if_eq
tree_if rd a b x y u v p q = go (eqb a b) refl
  where
    go : (t : Bool) → eqb a b ≡ t → tree rd (elim t [ true ↦ x | false ↦ y ]) ≡ elim t as (λ s. Tree) [ true ↦ u | false ↦ v ]
    go true e = p (eqb-true a b e)
    go false e = q

if_zero : (a b x y : ℕ) → x ≡ 0 → y ≡ 0 → if_eq a b x y ≡ 0
unfolding if_eq
if_zero a b x y p q = go (eqb a b)
  where
    go : (t : Bool) → ◌≡◌ {A = ℕ} (elim t [ true ↦ x | false ↦ y ]) 0
    go true = p
    go false = q

-- record 0 is no term
type_zero : (rd : Reader) → type_at rd 0 ≡ 0
unfolding type_at type_by
type_zero rd =
    if_zero (rd 0 0) 7 _ _ (lower_zero rd 1)
    (if_zero (rd 0 0) 9 _ _ (lower_zero rd 2)
    (if_zero (rd 0 0) 10 _ _ (lower_zero rd 3)
    (if_zero (rd 0 0) 11 _ _ (lower_zero rd 3)
    (if_zero (rd 0 0) 12 _ _ (lower_zero rd 2)
    (if_zero (rd 0 0) 13 _ _ (rw (lower_zero rd 2) (child_zero rd 1)) (if_zero (rd 0 0) 23 _ _ (lower_zero rd 2) refl))))))

-- a part that the table gives is what the word refers to
part_tree : (rd : Reader) (i k w : ℕ) → 10 ≤ role k w → rd i 0 ≡ k → tree rd (lower rd i w) ≡ tree rd (child rd i w)
part_tree rd i k w h e = rw (child_lower rd i k e w h)

-- the tree of a term's type is the type of its tree
pub type_tree : (rd : Reader) (i : ℕ) → tree rd (type_at rd i) ≡ type_of (tree rd i)
unfolding type_at type_by type_of role if_lt if_eq
type_tree rd zero = rw (type_zero rd, tree_zero rd)
type_tree rd (suc i) =
    let k = rd (suc i) 0 in
    rw (tree_step_lem rd (suc i) (omega arith))
    (tree_if rd k 7 _ _ _ _ (part_tree rd (suc i) 7 1 (omega arith))
    (tree_if rd k 9 _ _ _ _ (part_tree rd (suc i) 9 2 (omega arith))
    (tree_if rd k 10 _ _ _ _ (part_tree rd (suc i) 10 3 (omega arith))
    (tree_if rd k 11 _ _ _ _ (part_tree rd (suc i) 11 3 (omega arith))
    (tree_if rd k 12 _ _ _ _ (part_tree rd (suc i) 12 2 (omega arith))
    (tree_if rd k 13 _ _ _ _ (λ e. rw (child_lower rd (suc i) 13 e 2 (omega arith), first_tree))
    (tree_if rd k 23 _ _ _ _ (part_tree rd (suc i) 23 2 (omega arith)) (tree_zero rd))))))))

-- The ways out of `type_at`: by the arm of kind c, and by the last.
module _ (rd : Reader) (i k : ℕ) (ek : k ≡ rd i 0) where
  pub type_as : (c : ℕ) → k ≡ c → (r : ℕ) → r ≡ type_by c rd i → r ≡ type_at rd i
  unfolding type_at
  type_as c e r h = rw (← ek, e) h

  pub no_term : (k ≡ 7 → ⊥) → (k ≡ 9 → ⊥) → (k ≡ 10 → ⊥) → (k ≡ 11 → ⊥) → (k ≡ 12 → ⊥) → (k ≡ 13 → ⊥) → (k ≡ 23 → ⊥) → 0 ≡ type_at rd i
  unfolding type_at type_by if_eq
  no_term a b c d e f g =
      rw (← ek) (simp (if_eq, ne_eqb k 7 a, ne_eqb k 9 b, ne_eqb k 10 c, ne_eqb k 11 d, ne_eqb k 12 e, ne_eqb k 13 f, ne_eqb k 23 g))

-- The ways out of `first_type` and `part_type`.
pub own_type : (rd : Reader) (i x r : ℕ) → x ≡ lower rd i 2 → r ≡ child rd x 1 → r ≡ child rd (lower rd i 2) 1
own_type rd i x r p e = rw (← p) e

pub part_type_is : (rd : Reader) (i w x r : ℕ) → x ≡ child rd i w → r ≡ type_at rd x → r ≡ part_type rd i w
unfolding part_type
part_type_is rd i w x r p e = rw (← p) e

first_type : (rd : Reader) (i : ℕ) → type_of (first_of (tree rd i)) ≡ tree rd (part_type rd i 1)
unfolding part_type
first_type rd i = rw (type_tree, first_tree)

second_type : (rd : Reader) (i : ℕ) → type_of (second_of (tree rd i)) ≡ tree rd (part_type rd i 2)
unfolding part_type
second_type rd i = rw (type_tree, second_tree)

-- The ways out of the tests of typing.
module _ (rd : Reader) (i : ℕ) (r : Bool) where
  pub constant_typed_is : (x : ℕ) → x ≡ child rd i 1 → r ≡ types_below 0 (tree rd x) → r ≡ constant_typed (tree rd i)
  unfolding constant_typed
  constant_typed_is x p e = rw (first_tree rd i, ← p) e

  pub for_all_typed_is : (x y : ℕ) → x ≡ child rd i 1 → y ≡ child rd i 2 → r ≡ bears 0 (tree rd x) (tree rd y) → r ≡ for_all_typed (tree rd i)
  unfolding for_all_typed
  for_all_typed_is x y p q e = rw (first_tree rd i, second_tree rd i, ← p, ← q) e

  module _ (x : ℕ) (ex : x ≡ part_type rd i 1) where
    pub pair_typed_is : (y p : ℕ) → y ≡ part_type rd i 2 → p ≡ child rd i 3 → r ≡ is_pair_of rd p x y → r ≡ pair_typed (tree rd i)
    unfolding pair_typed is_pair_of
    pair_typed_is y p ey ep e = rw (third_tree rd i, first_type rd i, second_type rd i, ← ex, ← ey, ← ep) e

    pub equal_typed_is : (y : ℕ) → y ≡ part_type rd i 2 → r ≡ same (tree rd x) (tree rd y) → r ≡ equal_typed (tree rd i)
    unfolding equal_typed
    equal_typed_is y ey e = rw (first_type rd i, second_type rd i, ← ex, ← ey) e

    pub member_typed_is : (s : ℕ) → s ≡ part_type rd i 2 → r ≡ is_set_of rd s x → r ≡ member_typed (tree rd i)
    unfolding member_typed is_set_of
    member_typed_is s es e = rw (first_type rd i, second_type rd i, ← ex, ← es) e

    pub choice_typed_is : (own : ℕ) → own ≡ child rd i 2 → r ≡ is_set_of rd x own → r ≡ choice_typed (tree rd i)
    unfolding choice_typed is_set_of
    choice_typed_is own p e = rw (first_type rd i, second_tree rd i, ← ex, ← p) e

-- A powerset and a product, as chains of tests.
module _ (rd : Reader) (i x k : ℕ) (ex : x ≡ part_type rd i 1) (ek : k ≡ kind_of (tree rd x)) where
  powerset_step : powerset_typed (tree rd i) ≡ both (eqb k 4) (is_set_of rd (child rd i 2) x)
  unfolding powerset_typed is_set_of
  powerset_step = rw (first_type rd i, second_tree rd i, ← ex, ← ek)

  pub powerset_none : (k ≡ 4 → ⊥) → false ≡ powerset_typed (tree rd i)
  unfolding both
  powerset_none h = rw (powerset_step) (simp (both, ne_eqb k 4 h))

  pub powerset_more : k ≡ 4 → (s : ℕ) (r : Bool) → s ≡ child rd i 2 → r ≡ is_set_of rd s x → r ≡ powerset_typed (tree rd i)
  unfolding both
  powerset_more h s r es e = rw (powerset_step, ← es) (simp (both, eq-eqb k 4 h) e)

  product_step : (y l : ℕ) → y ≡ part_type rd i 2 → l ≡ kind_of (tree rd y) →
      product_typed (tree rd i) ≡ both (eqb k 4) (both (eqb l 4) (is_set_of_pair rd (child rd i 3) (child rd x 1) (child rd y 1)))
  unfolding product_typed is_set_of_pair
  product_step y l ey el = rw (first_type rd i, second_type rd i, third_tree rd i, ← ex, ← ey, ← ek, ← el, first_tree rd x, first_tree rd y)

  pub product_first : (k ≡ 4 → ⊥) → false ≡ product_typed (tree rd i)
  unfolding both
  product_first h = rw (product_step (part_type rd i 2) _ refl refl) (simp (both, ne_eqb k 4 h))

  module _ (h : k ≡ 4) (y l : ℕ) (ey : y ≡ part_type rd i 2) (el : l ≡ kind_of (tree rd y)) where
    pub product_second : (l ≡ 4 → ⊥) → false ≡ product_typed (tree rd i)
    unfolding both
    product_second g = rw (product_step y l ey el) (simp (both, eq-eqb k 4 h, ne_eqb l 4 g))

    pub product_more : l ≡ 4 → (s u v : ℕ) (r : Bool) → s ≡ child rd i 3 → u ≡ child rd x 1 → v ≡ child rd y 1 → r ≡ is_set_of_pair rd s u v → r ≡ product_typed (tree rd i)
    unfolding both
    product_more g s u v r es eu ev e = rw (product_step y l ey el, ← es, ← eu, ← ev) (simp (both, eq-eqb k 4 h, eq-eqb l 4 g) e)
