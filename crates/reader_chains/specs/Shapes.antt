-- What the tree of a record is, by the record's kind.
use Prim.Native.Nat.{ℕ, zero, suc, ◌<◌, ◌≤◌}
use Rattle.std.specs.Prelude.{◌≡◌, Bool, true, false, ltb}
use Rattle.std.proofs.Math.Path.{refl}
use Rattle.std.proofs.Common.{arith}
use borrow.Author.Tests.{lt-ltb, le-ltb, ne_eqb}
use Rattle.reader.specs.Words.{Reader}
use Rattle.reader.specs.Tests.{both, if_eq, if_lt, if_true}
use Rattle.reader.specs.Kinds.{role, is_number, is_symbol, role_at}
use Rattle.reader.specs.Trees.{Tree, leaf, node, lower, child, atom, tree, kind_of, atom_of, first_of, second_of, third_of, same_head, same, ⊥ᵗ, ⊤ᵗ, ◌∧ᵗ◌, ◌⇒ᵗ◌, ¬ᵗ◌, ∀ᵗ, ◌=ᵗ◌, setᵗ, pairᵗ}
use Rattle.reader.specs.TreeLaws.{tree_zero, tree_step_lem}

-- Record 0 is none: nothing refers to a smaller one.
pub lower_zero : (rd : Reader) (w : ℕ) → lower rd 0 w ≡ 0
unfolding lower if_lt
lower_zero rd w = simp (lower, if_lt, le-ltb (rd 0 w) 0 (omega arith))

pub child_zero : (rd : Reader) (w : ℕ) → child rd 0 w ≡ 0
unfolding child if_lt
child_zero rd w = go (ltb (role_at rd 0 w) 10)
  where
    go : (b : Bool) → ◌≡◌ {A = ℕ} (elim b [ true ↦ 0 | false ↦ lower rd 0 w ]) 0
    go true = refl
    go false = lower_zero rd w

-- A record of kind k, by the table: words that are no parts of the tree, words that are, and records without an atom.
module _ (rd : Reader) (i k : ℕ) (ek : rd i 0 ≡ k) where
  pub child_none : (w : ℕ) → role k w < 10 → child rd i w ≡ 0
  unfolding child role_at if_lt
  child_none w h = simp (child, role_at, if_lt, ek, lt-ltb (role k w) 10 h)

  pub child_lower : (w : ℕ) → 10 ≤ role k w → child rd i w ≡ lower rd i w
  unfolding child role_at if_lt
  child_lower w h = simp (child, role_at, if_lt, ek, le-ltb (role k w) 10 h)

  pub atom_zero : is_symbol k ≡ false → is_number (role k 1) ≡ false → atom rd i ≡ 0
  unfolding atom role_at if_true
  atom_zero s n = simp (atom, role_at, if_true, ek, s, n)

  pub atom_first : is_symbol k ≡ false → is_number (role k 1) ≡ true → atom rd i ≡ rd i 1
  unfolding atom role_at if_true
  atom_first s n = simp (atom, role_at, if_true, ek, s, n)

-- equality of two nodes, as one step
pub same_nodes : (k l a b : ℕ) (x u y v z w : Tree) →
    same (node k a x y z) (node l b u v w) ≡ both (same_head k l a b) (both (same x u) (both (same y v) (same z w)))
unfolding same both
same_nodes k l a b x u y v z w = refl

-- The parts of a record's tree are the trees of the records that it refers to.
module _ (rd : Reader) where
  pub kind_zero : kind_of (tree rd 0) ≡ 0
  unfolding kind_of
  kind_zero = rw (tree_zero rd)

  pub kind_tree : (i : ℕ) → 0 < i → kind_of (tree rd i) ≡ rd i 0
  unfolding kind_of
  kind_tree i p = rw (tree_step_lem rd i p)

  pub atom_tree : (i : ℕ) → 0 < i → atom_of (tree rd i) ≡ atom rd i
  unfolding atom_of
  atom_tree i p = rw (tree_step_lem rd i p)

  pub first_tree : (i : ℕ) → first_of (tree rd i) ≡ tree rd (child rd i 1)
  unfolding first_of
  first_tree zero = rw (child_zero rd 1, tree_zero rd)
  first_tree (suc i) = rw (tree_step_lem rd (suc i) (omega arith))

  pub second_tree : (i : ℕ) → second_of (tree rd i) ≡ tree rd (child rd i 2)
  unfolding second_of
  second_tree zero = rw (child_zero rd 2, tree_zero rd)
  second_tree (suc i) = rw (tree_step_lem rd (suc i) (omega arith))

  pub third_tree : (i : ℕ) → third_of (tree rd i) ≡ tree rd (child rd i 3)
  unfolding third_of
  third_tree zero = rw (child_zero rd 3, tree_zero rd)
  third_tree (suc i) = rw (tree_step_lem rd (suc i) (omega arith))

  -- no record's tree is a sign that its kind is not
  pub other_kind : (i k a : ℕ) (x y z : Tree) → (rd i 0 ≡ k → ⊥) → same (tree rd i) (node k a x y z) ≡ false
  unfolding same same_head both
  other_kind zero k a x y z h = rw (tree_zero rd)
  other_kind (suc i) k a x y z h = rw (tree_step_lem rd (suc i) (omega arith), same_nodes) (simp (both, same_head, ne_eqb (rd (suc i) 0) k h))

-- The tree of a record of kind k whose word 1 is no number, by how many parts the table gives it.
module _ (rd : Reader) (i k : ℕ) (pos : 0 < i) (ek : rd i 0 ≡ k) (symbol : is_symbol k ≡ false) (number : is_number (role k 1) ≡ false) (third : role k 3 < 10) where
  two_parts : tree rd i ≡ node k 0 (tree rd (child rd i 1)) (tree rd (child rd i 2)) leaf
  two_parts = rw (tree_step_lem rd i pos, ek, atom_zero rd i k ek symbol number, child_none rd i k ek 3 third, tree_zero rd)

  one_part : role k 2 < 10 → tree rd i ≡ node k 0 (tree rd (child rd i 1)) leaf leaf
  one_part h = rw (two_parts, child_none rd i k ek 2 h, tree_zero rd)

  no_part : role k 1 < 10 → role k 2 < 10 → tree rd i ≡ node k 0 leaf leaf leaf
  no_part g h = rw (one_part h, child_none rd i k ek 1 g, tree_zero rd)

-- Kinds 4, 5 and 14 to 21, in the rules' signs.
module _ (rd : Reader) (i : ℕ) (pos : 0 < i) where
  pub set_tree : rd i 0 ≡ 4 → tree rd i ≡ setᵗ (tree rd (child rd i 1))
  unfolding role if_lt if_eq is_symbol is_number
  set_tree e = one_part rd i 4 pos e refl refl (omega arith) (omega arith)

  pub pair_tree : rd i 0 ≡ 5 → tree rd i ≡ pairᵗ (tree rd (child rd i 1)) (tree rd (child rd i 2))
  unfolding role if_lt if_eq is_symbol is_number
  pair_tree e = two_parts rd i 5 pos e refl refl (omega arith)

  pub false_tree : rd i 0 ≡ 14 → tree rd i ≡ ⊥ᵗ
  unfolding role if_lt if_eq is_symbol is_number
  false_tree e = no_part rd i 14 pos e refl refl (omega arith) (omega arith) (omega arith)

  pub true_tree : rd i 0 ≡ 15 → tree rd i ≡ ⊤ᵗ
  unfolding role if_lt if_eq is_symbol is_number
  true_tree e = no_part rd i 15 pos e refl refl (omega arith) (omega arith) (omega arith)

  pub and_tree : rd i 0 ≡ 16 → tree rd i ≡ (tree rd (child rd i 1)) ∧ᵗ (tree rd (child rd i 2))
  unfolding role if_lt if_eq is_symbol is_number
  and_tree e = two_parts rd i 16 pos e refl refl (omega arith)

  pub implies_tree : rd i 0 ≡ 17 → tree rd i ≡ (tree rd (child rd i 1)) ⇒ᵗ (tree rd (child rd i 2))
  unfolding role if_lt if_eq is_symbol is_number
  implies_tree e = two_parts rd i 17 pos e refl refl (omega arith)

  pub not_tree : rd i 0 ≡ 18 → tree rd i ≡ ¬ᵗ (tree rd (child rd i 1))
  unfolding role if_lt if_eq is_symbol is_number
  not_tree e = one_part rd i 18 pos e refl refl (omega arith) (omega arith)

  pub all_tree : rd i 0 ≡ 19 → tree rd i ≡ ∀ᵗ (tree rd (child rd i 1)) (tree rd (child rd i 2))
  unfolding role if_lt if_eq is_symbol is_number
  all_tree e = two_parts rd i 19 pos e refl refl (omega arith)

  pub equal_tree : rd i 0 ≡ 20 → tree rd i ≡ (tree rd (child rd i 1)) =ᵗ (tree rd (child rd i 2))
  unfolding role if_lt if_eq is_symbol is_number
  equal_tree e = two_parts rd i 20 pos e refl refl (omega arith)

  pub member_tree : rd i 0 ≡ 21 → tree rd i ≡ node 21 0 (tree rd (child rd i 1)) (tree rd (child rd i 2)) leaf
  unfolding role if_lt if_eq is_symbol is_number
  member_tree e = two_parts rd i 21 pos e refl refl (omega arith)
