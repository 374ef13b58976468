-- Types with type arguments put in, by record, and the ways out of the code that compares them.
use Rattle.std.specs.Prelude.{ℕ, zero, suc, ◌+◌, ◌*◌, ◌<◌, ◌≡◌, List, Bool, true, false, eqb, get_or, set, drop}
use Rattle.std.proofs.Math.Path.{refl}
use Rattle.std.proofs.Common.{sym, ◌∙◌, arith}
use Rattle.std.proofs.Math.Dec.{eqb-suc-zero}
use borrow.Author.Tests.{eq-eqb, ne_eqb}
use Rattle.reader.specs.Words.{Reader}
use Rattle.reader.specs.Tests.{both, if_eq, if_lt}
use Rattle.reader.specs.Kinds.{role, is_number, is_symbol}
use Rattle.reader.specs.Trees.{Tree, leaf, node, lower, child, atom, tree, same}
use Rattle.reader.specs.Chains.{item_trees}
use Rattle.reader.specs.Variables.{instance}
use Rattle.reader.specs.TreeLaws.{tree_zero, tree_step_lem, child_below, same_equal}
use Rattle.reader.specs.SameLaws.{same_head_at}
use Rattle.reader_equality.specs.Tables.{Zeros, stored}
use Rattle.reader_chains.specs.Shapes.{atom_first}
use Rattle.reader_chains.specs.Chains.{link_at, item_at, trees_drop, item_tree, item_past}

-- record i is record j with the items of chain c in place of its type variables
unfoldable pub fits : Reader → ℕ → ℕ → ℕ → Bool
fits rd i j c = same (tree rd i) (instance (item_trees rd c) (tree rd j))

-- the same for a type variable j
unfoldable pub fits_variable : Reader → ℕ → ℕ → ℕ → Bool
fits_variable rd i j c = same (tree rd i) (get_or (item_trees rd c) (rd j 1) (tree rd j))

-- the same for what words w refer to
unfoldable pub fits_child : Reader → ℕ → ℕ → ℕ → ℕ → Bool
fits_child rd i j c w = fits rd (child rd i w) (child rd j w) c

-- the same for a record j that is no type variable: one head, and the parts fit
unfoldable pub fits_parts : Reader → ℕ → ℕ → ℕ → Bool
fits_parts rd i j c = both (same_head_at rd i j) (both (fits_child rd i j c 1) (both (fits_child rd i j c 2) (fits_child rd i j c 3)))

-- entry j of a table, where it is not 0, is a record that fits record j
pub record Remembered (rd : Reader) (c : ℕ) (seen : List ℕ) : Type 0 where
  pub fitting : (j : ℕ) → 0 < get_or seen j 0 → fits rd (get_or seen j 0) j c ≡ true

pub remembered_none : (rd : Reader) (c : ℕ) (seen : List ℕ) → Zeros seen → Remembered rd c seen
remembered_none rd c seen z = record { fitting = λ j h. absurd (omega (arith, z.zeros j)) }

pub remembered_more : (rd : Reader) (c : ℕ) (seen : List ℕ) (i j : ℕ) (after : List ℕ) → Remembered rd c seen → true ≡ fits rd i j c → after ≡ set seen j i → Remembered rd c after
remembered_more rd c seen i j after r e q = rw q (record { fitting = stored (λ k x. fits rd x k c ≡ true) seen j i r.fitting (sym e) })

-- what fits record j is equal to a record that does
pub remembered_is : (rd : Reader) (c : ℕ) (seen : List ℕ) (i j x : ℕ) (r : Bool) → Remembered rd c seen → x ≡ get_or seen j 0 → (x ≡ 0 → ⊥) →
    r ≡ same (tree rd i) (tree rd x) → r ≡ fits rd i j c
unfolding fits
remembered_is rd c seen i j x r memory e some h =
    let fit : fits rd x j c ≡ true = rw e (memory.fitting j (omega arith)) in
    let one : tree rd x ≡ instance (item_trees rd c) (tree rd j) = same_equal (tree rd x) (instance (item_trees rd c) (tree rd j)) fit in
    rw (← one) h

-- The ways out of `fits_variable`.
module _ (rd : Reader) (i j c a l : ℕ) (ea : a ≡ rd j 1) (el : l ≡ link_at rd c a) (r : Bool) where
  pub variable_past : l ≡ 0 → r ≡ same (tree rd i) (tree rd j) → r ≡ fits_variable rd i j c
  unfolding fits_variable
  variable_past h e = rw (← ea, item_past rd a c (tree rd j) (sym el ∙ h)) e

  pub variable_item : (l ≡ 0 → ⊥) → (x : ℕ) → x ≡ lower rd l 1 → r ≡ same (tree rd i) (tree rd x) → r ≡ fits_variable rd i j c
  unfolding fits_variable item_at
  variable_item h x ex e = rw (← ea, item_tree rd a c (tree rd j) (λ z. h (el ∙ z)), ← el, ← ex) e

-- types put in at a record that is not 0
instance_step : (rd : Reader) (j : ℕ) (ts : List Tree) → (j ≡ 0 → ⊥) → instance ts (tree rd j) ≡
    if_eq (rd j 0) 6 (get_or ts (atom rd j) (tree rd j))
    (node (rd j 0) (atom rd j) (instance ts (tree rd (child rd j 1))) (instance ts (tree rd (child rd j 2))) (instance ts (tree rd (child rd j 3))))
unfolding instance if_eq
instance_step rd j ts pos = rw (tree_step_lem rd j (omega arith))

pub same_leaf : (rd : Reader) (i : ℕ) → same (tree rd i) leaf ≡ eqb i 0
unfolding same
same_leaf rd zero = rw (tree_zero rd)
same_leaf rd (suc i) = rw (tree_step_lem rd (suc i) (omega arith)) (sym (eqb-suc-zero i))

-- The ways out of `fits_at`.
module _ (rd : Reader) (i j c : ℕ) where
  pub fits_none : j ≡ 0 → eqb i 0 ≡ fits rd i j c
  unfolding fits instance
  fits_none h = rw (h, tree_zero rd) (sym (same_leaf rd i))

  module _ (pos : j ≡ 0 → ⊥) (k : ℕ) (ek : k ≡ rd j 0) where
    pub fits_variable_lem : k ≡ 6 → (r : Bool) → r ≡ fits_variable rd i j c → r ≡ fits rd i j c
    unfolding fits fits_variable if_eq role if_lt is_symbol is_number
    fits_variable_lem h r e =
        rw (instance_step rd j (item_trees rd c) pos, atom_first rd j 6 (sym ek ∙ h) refl refl) (simp (if_eq, ← ek, eq-eqb k 6 h) e)

    module _ (no : k ≡ 6 → ⊥) where
      pub fits_first_none : i ≡ 0 → false ≡ fits rd i j c
      unfolding fits same if_eq
      fits_first_none h = rw (instance_step rd j (item_trees rd c) pos, h, tree_zero rd) (simp (if_eq, ← ek, ne_eqb k 6 no))

      pub fits_more : (i ≡ 0 → ⊥) → (r : Bool) → r ≡ fits_parts rd i j c → r ≡ fits rd i j c
      unfolding fits fits_parts fits_child same same_head_at both if_eq
      fits_more ni r e = rw (instance_step rd j (item_trees rd c) pos, tree_step_lem rd i (omega arith)) (simp (if_eq, ne_eqb (rd j 0) 6 (λ z. no (ek ∙ z))) e)

-- from a record of a signature to one that it refers to
pub child_falls : (rd : Reader) (j w y t : ℕ) → 3 * j ≡ t → 0 < j → y ≡ child rd j w → 3 * y + 2 < t
child_falls rd j w y t e p h = omega (arith, child_below rd j w p)

pub fits_child_is : (rd : Reader) (i j c w x y : ℕ) (r : Bool) → x ≡ child rd i w → y ≡ child rd j w → r ≡ fits rd x y c → r ≡ fits_child rd i j c w
unfolding fits_child
fits_child_is rd i j c w x y r p q e = rw (← p, ← q) e

pub same_instance_is : (rd : Reader) (i j c d : ℕ) (r : Bool) → d ≡ lower rd c 3 → r ≡ fits rd i j d → r ≡ same (tree rd i) (instance (drop 1 (item_trees rd c)) (tree rd j))
unfolding fits
same_instance_is rd i j c d r p e = rw (trees_drop rd c, ← p) e
