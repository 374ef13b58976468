-- Replacement at records, as one step, and the ways out of the code that tests it.
use Rattle.std.specs.Prelude.{ℕ, zero, suc, ◌+◌, ◌*◌, ◌<◌, ◌≤◌, ◌≡◌, refl, Bool, true, false, eqb}
use Rattle.std.proofs.Common.{sym, ◌∙◌, arith}
use borrow.Author.Tests.{ne_eqb, eq-eqb, le-leb}
use Rattle.reader.specs.Words.{Reader}
use Rattle.reader.specs.Tests.{both}
use Rattle.reader.specs.Trees.{Tree, node, child, atom, tree, same}
use Rattle.reader.specs.Variables.{binders, is_index, replaced, indices_below}
use Rattle.reader.specs.TreeLaws.{tree_zero, tree_step_lem, child_below}
use Rattle.reader.specs.SameLaws.{same_head_at}
use Rattle.reader_closedness.specs.Reach.{reach, replaced_closed}
use Rattle.reader_closedness.specs.Reaches.{reach_none, index_below}

-- record j is the bound variable with index d
unfoldable pub index_at : Reader → ℕ → ℕ → Bool
index_at rd j d = is_index (rd j 0) (atom rd j) d

-- the index that stands for d below word 2 of record j
unfoldable pub deeper : Reader → ℕ → ℕ → ℕ
deeper rd j d = d + binders (rd j 0)

-- record i is record j with record t in place of index d; and so for word w of each
unfoldable pub fits : Reader → ℕ → ℕ → ℕ → ℕ → Bool
fits rd i j t d = same (tree rd i) (replaced d (tree rd t) (tree rd j))

unfoldable pub fits_child : Reader → ℕ → ℕ → ℕ → ℕ → ℕ → Bool
fits_child rd i j t d w = fits rd (child rd i w) (child rd j w) t d

-- from a record to a part of it, where the measure is three times the record's number, and two more at the callee
pub fits_falls : (rd : Reader) (j w x d t : ℕ) → 3 * j ≡ t → 0 < j → d + j ≤ 18446744073709551616 → x ≡ child rd j w → (3 * x + 2 < t) × (d + x < 18446744073709551616)
fits_falls rd j w x d t e p q h = omega (arith, child_below rd j w p)

-- The ways out of the small functions.
module _ (rd : Reader) (j d k : ℕ) (ek : k ≡ rd j 0) where
  pub index_other : (k ≡ 9 → ⊥) → false ≡ index_at rd j d
  unfolding index_at is_index
  index_other h = simp (is_index, ← ek, ne_eqb k 9 h)

  pub index_is : k ≡ 9 → (a : ℕ) → a ≡ atom rd j → eqb a d ≡ index_at rd j d
  unfolding index_at is_index
  index_is h a e = simp (is_index, ← ek, eq-eqb k 9 h, ← e)

  pub deeper_binder : k ≡ 19 → d + 1 ≡ deeper rd j d
  unfolding deeper binders
  deeper_binder h = simp (binders, ← ek, eq-eqb k 19 h)

  pub deeper_other : (k ≡ 19 → ⊥) → d ≡ deeper rd j d
  unfolding deeper binders
  deeper_other h = simp (binders, ← ek, ne_eqb k 19 h) (omega arith)

pub fits_child_lem : (rd : Reader) (i j t d w x y : ℕ) (r : Bool) → x ≡ child rd i w → y ≡ child rd j w → r ≡ fits rd x y t d → r ≡ fits_child rd i j t d w
unfolding fits_child
fits_child_lem rd i j t d w x y r p q e = rw (← p, ← q) e

-- replacement at a record that is not 0
replaced_step : (rd : Reader) (j d : ℕ) (t : Tree) → 0 < j → replaced d t (tree rd j) ≡ elim (index_at rd j d) [
  | true ↦ t
  | false ↦ node (rd j 0) (atom rd j) (replaced d t (tree rd (child rd j 1))) (replaced (deeper rd j d) t (tree rd (child rd j 2))) (replaced d t (tree rd (child rd j 3)))
]
unfolding replaced index_at deeper
replaced_step rd j d t p = rw (tree_step_lem rd j p)

-- a record with an index from d on is not 0
pub open_positive : (rd : Reader) (j d r : ℕ) → r ≡ reach false (tree rd j) → d < r → 0 < j
open_positive rd zero d r e h = absurd (omega (arith, reach_none rd false 0 refl))
open_positive rd (suc j) d r e h = omega arith

-- from a record to the function for its parts, at the same depth or one more
pub open_parts : (j d e n : ℕ) → 3 * j + 1 ≡ n → 0 < j → d + j < 18446744073709551616 → e ≤ d + 1 → (3 * j < n) × (0 < j) × (e + j ≤ 18446744073709551616)
open_parts j d e n en p small deep = (omega arith, p, omega arith)

-- a record without an index from d on
pub closed_below : (rd : Reader) (j d r : ℕ) → r ≡ reach false (tree rd j) → r ≤ d → indices_below d (tree rd j) ≡ true
closed_below rd j d r e h = sym (index_below rd j d r e) ∙ le-leb r d h

pub fits_closed : (rd : Reader) (i j t d r : ℕ) → r ≡ reach false (tree rd j) → r ≤ d → (s : Bool) → s ≡ same (tree rd i) (tree rd j) → s ≡ fits rd i j t d
unfolding fits
fits_closed rd i j t d r er h s e = rw (replaced_closed d (tree rd t) (tree rd j) (closed_below rd j d r er h)) e

-- The ways out of `fits_open`.
module _ (rd : Reader) (i j t d : ℕ) (pos : 0 < j) (r : Bool) (er : r ≡ index_at rd j d) where
  pub fits_index : r ≡ true → (s : Bool) → s ≡ same (tree rd i) (tree rd t) → s ≡ fits rd i j t d
  unfolding fits
  fits_index h s e = rw (replaced_step rd j d (tree rd t) pos) (simp (← er, h) e)

  module _ (other : r ≡ false) where
    pub fits_missing : i ≡ 0 → false ≡ fits rd i j t d
    unfolding fits same
    fits_missing h = rw (replaced_step rd j d (tree rd t) pos, h, tree_zero rd) (simp (← er, other))

    pub fits_more : (i ≡ 0 → ⊥) → (s : Bool) →
        s ≡ both (same_head_at rd i j) (both (fits_child rd i j t d 1) (both (fits_child rd i j t (deeper rd j d) 2) (fits_child rd i j t d 3))) → s ≡ fits rd i j t d
    unfolding fits fits_child same same_head_at both
    fits_more ni s q = rw (replaced_step rd j d (tree rd t) pos, tree_step_lem rd i (omega arith)) (simp (← er, other) q)

-- the second child stands below the binder that the code counted
pub fits_deeper : (rd : Reader) (i j t d w e : ℕ) (r : Bool) → e ≡ deeper rd j d → r ≡ fits_child rd i j t e w → r ≡ fits_child rd i j t (deeper rd j d) w
fits_deeper rd i j t d w e r p q = rw (← p) q

pub fits_whole : (rd : Reader) (i t j : ℕ) (r : Bool) → r ≡ fits rd i j t 0 → r ≡ same (tree rd i) (replaced 0 (tree rd t) (tree rd j))
unfolding fits
fits_whole rd i t j r e = e
