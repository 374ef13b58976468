-- The comparison of two records, as one step.
use Rattle.std.specs.Prelude.{ℕ, ◌+◌, ◌*◌, ◌<◌, ◌≡◌, Bool, true, false, eqb}
use Rattle.std.proofs.Common.{sym, arith}
use borrow.Author.Tests.{ne_eqb, eq-eqb}
use Rattle.reader.specs.Words.{Reader}
use Rattle.reader.specs.Tests.{both, if_true}
use Rattle.reader.specs.Kinds.{is_symbol, is_number, role_at}
use Rattle.reader.specs.Trees.{child, atom, tree, same_head, same}
use Rattle.reader.specs.TreeLaws.{tree_zero, tree_step_lem, child_below, same_self}

-- records i and j have one kind and one atom
unfoldable pub same_head_at : Reader → ℕ → ℕ → Bool
same_head_at rd i j = same_head (rd i 0) (rd j 0) (atom rd i) (atom rd j)

-- words w of records i and j refer to equal trees
unfoldable pub same_child : Reader → ℕ → ℕ → ℕ → Bool
same_child rd i j w = same (tree rd (child rd i w)) (tree rd (child rd j w))

-- from a record to one that it refers to, where the measure is twice the record's number, and one more at the callee
pub child_falls : (rd : Reader) (i w r t : ℕ) → 2 * i ≡ t → 0 < i → r ≡ child rd i w → 2 * r + 1 < t
child_falls rd i w r t e n q = omega (arith, child_below rd i w n)

-- The ways out of `atom_at`.
module _ (rd : Reader) (i k : ℕ) (ek : k ≡ rd i 0) (s : Bool) (es : s ≡ is_symbol k) where
  pub atom_symbol : s ≡ true → i ≡ atom rd i
  unfolding atom if_true
  atom_symbol h = simp (atom, if_true, ← ek, ← es, h)

  module _ (no : s ≡ false) (q : ℕ) (eq : q ≡ role_at rd i 1) (t : Bool) (et : t ≡ is_number q) where
    pub atom_number : t ≡ true → (a : ℕ) → a ≡ rd i 1 → a ≡ atom rd i
    unfolding atom if_true
    atom_number h a e = simp (atom, if_true, ← ek, ← es, no, ← eq, ← et, h) e

    pub atom_none : t ≡ false → 0 ≡ atom rd i
    unfolding atom if_true
    atom_none h = simp (atom, if_true, ← ek, ← es, no, ← eq, ← et, h)

module _ (rd : Reader) (i j : ℕ) where
  pub head_kinds : (k l : ℕ) → k ≡ rd i 0 → l ≡ rd j 0 → (k ≡ l → ⊥) → false ≡ same_head_at rd i j
  unfolding same_head_at same_head
  head_kinds k l p q h = simp (same_head, ← p, ← q, ne_eqb k l h)

  pub head_atoms : (k l a b : ℕ) → k ≡ rd i 0 → l ≡ rd j 0 → k ≡ l → a ≡ atom rd i → b ≡ atom rd j → eqb a b ≡ same_head_at rd i j
  unfolding same_head_at same_head
  head_atoms k l a b p q h r s = simp (same_head, ← p, ← q, eq-eqb k l h, ← r, ← s)

  pub same_one : i ≡ j → true ≡ same (tree rd i) (tree rd j)
  same_one h = rw h (sym (same_self (tree rd j)))

  pub same_first_none : (i ≡ j → ⊥) → i ≡ 0 → false ≡ same (tree rd i) (tree rd j)
  unfolding same
  same_first_none p h = rw (h, tree_zero rd, tree_step_lem rd j (omega arith))

  pub same_second_none : (i ≡ 0 → ⊥) → j ≡ 0 → false ≡ same (tree rd i) (tree rd j)
  unfolding same
  same_second_none p h = rw (tree_step_lem rd i (omega arith), h, tree_zero rd)

  -- two records that are not 0
  pub same_more : (r : Bool) → (i ≡ 0 → ⊥) → (j ≡ 0 → ⊥) →
      r ≡ both (same_head_at rd i j) (both (same_child rd i j 1) (both (same_child rd i j 2) (same_child rd i j 3))) → r ≡ same (tree rd i) (tree rd j)
  unfolding same same_head_at same_child both
  same_more r p q e = rw (tree_step_lem rd i (omega arith), tree_step_lem rd j (omega arith)) e
