-- Set and pair types of records, and the ways out of the code that tests for them.
use Rattle.std.specs.Prelude.{ℕ, zero, suc, ◌<◌, ◌≡◌, refl, Bool, true, false}
use Rattle.std.proofs.Math.Path.{sym}
use Rattle.std.proofs.Common.{ap, ◌∙◌, arith, ne_eqb}
use Rattle.reader.specs.Words.{Reader}
use Rattle.reader.specs.Tests.{both, if_lt, if_eq}
use Rattle.reader.specs.Kinds.{role}
use Rattle.reader.specs.Trees.{Tree, leaf, node, lower, tree, kind_of, same_head, same, setᵗ, pairᵗ}
use Rattle.reader_chains.specs.Shapes.{child_lower, kind_zero, kind_tree, same_nodes, set_tree, pair_tree}

unfoldable pub is_set_of : Reader → ℕ → ℕ → Bool
is_set_of rd s x = same (tree rd s) (setᵗ (tree rd x))

unfoldable pub is_pair_of : Reader → ℕ → ℕ → ℕ → Bool
is_pair_of rd p x y = same (tree rd p) (pairᵗ (tree rd x) (tree rd y))

unfoldable pub is_set_of_pair : Reader → ℕ → ℕ → ℕ → Bool
is_set_of_pair rd s x y = same (tree rd s) (setᵗ (pairᵗ (tree rd x) (tree rd y)))

-- The ways out of `tree_kind`.
module _ (rd : Reader) (i : ℕ) where
  pub tree_kind_none : i ≡ 0 → 0 ≡ kind_of (tree rd i)
  tree_kind_none h = rw h (sym (kind_zero rd))

  pub tree_kind_some : (i ≡ 0 → ⊥) → (k : ℕ) → k ≡ rd i 0 → k ≡ kind_of (tree rd i)
  tree_kind_some h k e = rw (kind_tree rd i (omega arith)) e

-- a tree of another kind is no node of this kind
other_tree : (t : Tree) (k l a : ℕ) (x y z : Tree) → k ≡ kind_of t → (k ≡ l → ⊥) → same t (node l a x y z) ≡ false
unfolding same both same_head kind_of
other_tree leaf k l a x y z e h = refl
other_tree (node j b u v w) k l a x y z e h = rw same_nodes (simp (both, same_head, ne_eqb j l (λ q. h (e ∙ q))))

-- the record of a tree of kind l has that kind
kind_is : (rd : Reader) (i k l : ℕ) → k ≡ kind_of (tree rd i) → k ≡ l → 0 < l → (0 < i) × (rd i 0 ≡ l)
kind_is rd zero k l e h p = let z : kind_of (tree rd 0) ≡ 0 = kind_zero rd in absurd (omega arith)
kind_is rd (suc i) k l e h p = let z : kind_of (tree rd (suc i)) ≡ rd (suc i) 0 = kind_tree rd (suc i) (omega arith) in (omega arith, omega arith)

both_true : (b : Bool) → both b true ≡ b
unfolding both
both_true true = refl
both_true false = refl

-- equality of two set types, and of two pair types
same_set : (x u : Tree) → same (setᵗ x) (setᵗ u) ≡ same x u
unfolding same same_head both
same_set x u = both_true (same x u)

same_pair : (x u y v : Tree) → same (pairᵗ x y) (pairᵗ u v) ≡ both (same x u) (same y v)
unfolding same same_head both
same_pair x u y v = ap (λ (b : Bool). both (same x u) b) (both_true (same y v))

-- The ways out of `is_set_of` and `is_set_of_pair`.
module _ (rd : Reader) (s x k : ℕ) (e : k ≡ kind_of (tree rd s)) where
  pub set_other : (k ≡ 4 → ⊥) → false ≡ is_set_of rd s x
  unfolding is_set_of
  set_other h = sym (other_tree (tree rd s) k 4 0 (tree rd x) leaf leaf e h)

  pub set_pair_other : (y : ℕ) → (k ≡ 4 → ⊥) → false ≡ is_set_of_pair rd s x y
  unfolding is_set_of_pair
  set_pair_other y h = sym (other_tree (tree rd s) k 4 0 (pairᵗ (tree rd x) (tree rd y)) leaf leaf e h)

  set_lower : k ≡ 4 → tree rd s ≡ setᵗ (tree rd (lower rd s 1))
  unfolding role if_lt if_eq
  set_lower h = let p = kind_is rd s k 4 e h (omega arith) in rw (set_tree rd s p.0 p.1, child_lower rd s 4 p.1 1 (omega arith))

  module _ (h : k ≡ 4) (z : ℕ) (ez : z ≡ lower rd s 1) (r : Bool) where
    pub set_more : r ≡ same (tree rd z) (tree rd x) → r ≡ is_set_of rd s x
    unfolding is_set_of
    set_more q = rw (set_lower h, same_set, ← ez) q

    pub set_pair_more : (y : ℕ) → r ≡ is_pair_of rd z x y → r ≡ is_set_of_pair rd s x y
    unfolding is_set_of_pair is_pair_of
    set_pair_more y q = rw (set_lower h, same_set, ← ez) q

-- The ways out of `is_pair_of`.
module _ (rd : Reader) (p x y k : ℕ) (e : k ≡ kind_of (tree rd p)) where
  pub pair_other : (k ≡ 5 → ⊥) → false ≡ is_pair_of rd p x y
  unfolding is_pair_of
  pair_other h = sym (other_tree (tree rd p) k 5 0 (tree rd x) (tree rd y) leaf e h)

  pub pair_more : k ≡ 5 → (r : Bool) → r ≡ both (same (tree rd (lower rd p 1)) (tree rd x)) (same (tree rd (lower rd p 2)) (tree rd y)) → r ≡ is_pair_of rd p x y
  unfolding is_pair_of role if_lt if_eq
  pair_more h r q =
      let f = kind_is rd p k 5 e h (omega arith) in
      rw (pair_tree rd p f.0 f.1, child_lower rd p 5 f.1 1 (omega arith), child_lower rd p 5 f.1 2 (omega arith), same_pair) q

pub lower_same : (rd : Reader) (p w x z : ℕ) (r : Bool) → z ≡ lower rd p w → r ≡ same (tree rd z) (tree rd x) → r ≡ same (tree rd (lower rd p w)) (tree rd x)
lower_same rd p w x z r e q = rw (← e) q
