-- The number of a record's tree: the least record that has it. Two records have equal trees exactly when these numbers are equal.
-- The same for any trees that records have: f says which.
use Rattle.std.specs.Prelude.{ℕ, zero, suc, ◌+◌, ◌<◌, ◌≤◌, ◌≡◌, refl, List, Bool, true, false, eqb, ltb, length, get_or, set}
use Rattle.std.proofs.Common.{sym, ap, ◌∙◌, get_or-set_same, get_or-set_other, arith, eq-eqb, ne_eqb, ltb-true, ltb-false}
use Rattle.std.proofs.lemmas.Bool.{false≢true}
use Rattle.reader.specs.Words.{Reader}
use Rattle.reader.specs.Trees.{Tree, leaf, tree, same}
use Rattle.reader.specs.TreeLaws.{tree_zero, tree_step_lem, same_equal, same_self}

-- the first of k records from j on whose tree is that of record i; else i itself
unfoldable pub least_from : (ℕ → Tree) → ℕ → ℕ → ℕ → ℕ
least_from f i zero j = i
least_from f i (suc k) j = elim (same (f j) (f i)) [ true ↦ j | false ↦ least_from f i k (j + 1) ]

-- the least record with the tree of record i
unfoldable pub least_of : (ℕ → Tree) → ℕ → ℕ
least_of f i = least_from f i i 0

unfoldable pub least : Reader → ℕ → ℕ
least rd i = least_of (tree rd) i

-- the table holds the numbers of the records below n
pub record Numbered (rd : Reader) (table : List ℕ) (n : ℕ) : Type 0 where
  pub holds : (i : ℕ) → i < n → get_or table i 0 ≡ least rd i

-- what `least_from` finds: no later than i, with the same tree, and no earlier one has it
from_most : (f : ℕ → Tree) (i k j : ℕ) → j + k ≤ i → least_from f i k j ≤ i
unfolding least_from
from_most f i zero j h = omega arith
from_most f i (suc k) j h = go (same (f j) (f i)) (from_most f i k (j + 1) (omega arith))
  where
    go : (b : Bool) → least_from f i k (j + 1) ≤ i → elim b as (λ x. ℕ) [ true ↦ j | false ↦ least_from f i k (j + 1) ] ≤ i
    go true rest = omega arith
    go false rest = rest

from_tree : (f : ℕ → Tree) (i k j : ℕ) → f (least_from f i k j) ≡ f i
unfolding least_from
from_tree f i zero j = refl
from_tree f i (suc k) j = go (same (f j) (f i)) refl (from_tree f i k (j + 1))
  where
    go : (b : Bool) → same (f j) (f i) ≡ b → f (least_from f i k (j + 1)) ≡ f i →
        f (elim b as (λ x. ℕ) [ true ↦ j | false ↦ least_from f i k (j + 1) ]) ≡ f i
    go true e rest = same_equal (f j) (f i) e
    go false e rest = rest

from_first : (f : ℕ → Tree) (i k j x : ℕ) → j + k ≡ i → j ≤ x → x < least_from f i k j → same (f x) (f i) ≡ false
unfolding least_from
from_first f i zero j x e p q = absurd (omega arith)
from_first f i (suc k) j x e p q = go (same (f j) (f i)) refl q (λ below. from_first f i k (j + 1) x (omega arith) below)
  where
    go : (b : Bool) → same (f j) (f i) ≡ b → x < elim b as (λ x. ℕ) [ true ↦ j | false ↦ least_from f i k (j + 1) ] →
        (j + 1 ≤ x → x < least_from f i k (j + 1) → same (f x) (f i) ≡ false) → same (f x) (f i) ≡ false
    go true t h rest = absurd (omega arith)
    go false t h rest = here (ltb j x) refl
      where
        here : (b : Bool) → ltb j x ≡ b → same (f x) (f i) ≡ false
        here true s = rest (omega (arith, ltb-true j x s)) h
        here false s = let one : x ≡ j = omega (arith, ltb-false j x s) in rw one t

module _ (f : ℕ → Tree) (i : ℕ) where
  pub number_most : least_of f i ≤ i
  unfolding least_of
  number_most = from_most f i i 0 (omega arith)

  pub number_tree : f (least_of f i) ≡ f i
  unfolding least_of
  number_tree = from_tree f i i 0

  pub number_first : (j : ℕ) → j < least_of f i → same (f j) (f i) ≡ false
  unfolding least_of
  number_first j h = from_first f i i 0 j (omega arith) (omega arith) h

-- no record below the number of one tree has that tree
none_below : (f : ℕ → Tree) (i j : ℕ) → f i ≡ f j → least_of f i < least_of f j → ⊥
none_below f i j e h =
    let other : same (f (least_of f i)) (f j) ≡ false = number_first f j (least_of f i) h in
    let one : f (least_of f i) ≡ f j = number_tree f i ∙ e in
    let yes : same (f (least_of f i)) (f j) ≡ true = rw one (same_self (f j)) in
    false≢true (sym other ∙ yes)

-- equal trees have one number
pub number_equal : (f : ℕ → Tree) (i j : ℕ) → f i ≡ f j → least_of f i ≡ least_of f j
number_equal f i j e = go (ltb (least_of f i) (least_of f j)) (ltb (least_of f j) (least_of f i)) refl refl
  where
    go : (a b : Bool) → ltb (least_of f i) (least_of f j) ≡ a → ltb (least_of f j) (least_of f i) ≡ b → least_of f i ≡ least_of f j
    go true b p q = absurd (none_below f i j e (ltb-true (least_of f i) (least_of f j) p))
    go false true p q = absurd (none_below f j i (sym e) (ltb-true (least_of f j) (least_of f i) q))
    go false false p q = omega (arith, ltb-false (least_of f i) (least_of f j) p, ltb-false (least_of f j) (least_of f i) q)

-- one number has one tree
pub number_one : (f : ℕ → Tree) (i j : ℕ) → least_of f i ≡ least_of f j → f i ≡ f j
number_one f i j e = sym (number_tree f i) ∙ ap f e ∙ number_tree f j

-- comparing numbers is comparing trees
pub number_same : (f : ℕ → Tree) (i j : ℕ) → eqb (least_of f i) (least_of f j) ≡ same (f i) (f j)
number_same f i j = go (same (f i) (f j)) refl
  where
    go : (b : Bool) → same (f i) (f j) ≡ b → eqb (least_of f i) (least_of f j) ≡ b
    go true e = eq-eqb (least_of f i) (least_of f j) (number_equal f i j (same_equal (f i) (f j) e))
    go false e = ne_eqb (least_of f i) (least_of f j) (λ q. false≢true (sym e ∙ rw (number_one f i j q) (same_self (f j))))

pub number_least : (f : ℕ → Tree) (i : ℕ) → least_of f (least_of f i) ≡ least_of f i
number_least f i = number_equal f (least_of f i) i (number_tree f i)

-- the same of the records' own trees
module _ (rd : Reader) where
  pub least_most : (i : ℕ) → least rd i ≤ i
  unfolding least
  least_most = number_most (tree rd)

  pub least_tree : (i : ℕ) → tree rd (least rd i) ≡ tree rd i
  unfolding least
  least_tree = number_tree (tree rd)

  pub least_equal : (i j : ℕ) → tree rd i ≡ tree rd j → least rd i ≡ least rd j
  unfolding least
  least_equal = number_equal (tree rd)

  pub least_one : (i j : ℕ) → least rd i ≡ least rd j → tree rd i ≡ tree rd j
  unfolding least
  least_one = number_one (tree rd)

  pub least_same : (i j : ℕ) → eqb (least rd i) (least rd j) ≡ same (tree rd i) (tree rd j)
  unfolding least
  least_same = number_same (tree rd)

  pub least_least : (i : ℕ) → least rd (least rd i) ≡ least rd i
  unfolding least
  least_least = number_least (tree rd)

pub least_zero : (rd : Reader) → least rd 0 ≡ 0
least_zero rd = omega (arith, least_most rd 0)

pub least_positive : (rd : Reader) (i : ℕ) → 0 < i → 0 < least rd i
least_positive rd i p = go (least rd i) refl
  where
    go : (n : ℕ) → least rd i ≡ n → 0 < n
    go zero e =
        let none : tree rd i ≡ leaf = sym (least_tree rd i) ∙ ap (tree rd) e ∙ tree_zero rd in
        let some = tree_step_lem rd i p in
        let z : ◌≡◌ {A = ℕ} 0 1 = cc in
        absurd (omega arith)
    go (suc n) e = omega arith

-- The table with one number more.
pub numbered_one : (rd : Reader) (table : List ℕ) → get_or table 0 0 ≡ 0 → Numbered rd table 1
numbered_one rd table z = record { holds = λ i h. go i h }
  where
    go : (i : ℕ) → i < 1 → get_or table i 0 ≡ least rd i
    go zero h = z ∙ sym (least_zero rd)
    go (suc i) h = absurd (omega arith)

pub numbered_more : (rd : Reader) (table : List ℕ) (i v : ℕ) → i < length table → Numbered rd table i → v ≡ least rd i → Numbered rd (set table i v) (i + 1)
numbered_more rd table i v p n e = record { holds = λ j h. go j h (ltb j i) refl }
  where
    go : (j : ℕ) → j < i + 1 → (b : Bool) → ltb j i ≡ b → get_or (set table i v) j 0 ≡ least rd j
    go j h true q = let below = ltb-true j i q in get_or-set_other table i j v 0 (omega arith) ∙ n.holds j below
    go j h false q = let one : j ≡ i = omega (arith, ltb-false j i q) in rw one (get_or-set_same table i v 0 p ∙ e)

pub numbered_end : (rd : Reader) (table : List ℕ) (i n : ℕ) → n ≤ i → Numbered rd table i → Numbered rd table n
numbered_end rd table i n h t = record { holds = λ j p. t.holds j (omega arith) }

-- The ways out of code that reads the table.
pub number_is : (rd : Reader) (table : List ℕ) (i n r : ℕ) → i < n → Numbered rd table n → r ≡ get_or table i 0 → r ≡ least rd i
number_is rd table i n r h t e = e ∙ t.holds i h

pub numbers_same : (rd : Reader) (i j a b : ℕ) → a ≡ least rd i → b ≡ least rd j → eqb a b ≡ same (tree rd i) (tree rd j)
numbers_same rd i j a b p q = rw (p, q) (least_same rd i j)
