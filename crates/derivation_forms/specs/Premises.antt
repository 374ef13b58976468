-- The premises of a node, and the ways out of the code that counts them.
use Prim.Native.Nat.{ℕ, zero, suc, ◌-◌}
use Rattle.std.specs.Prelude.{◌≡◌, List, ◌∷◌, Bool, false, not, length}
use Rattle.std.proofs.Math.Path.{refl}
use Rattle.std.proofs.Math.Bool.{true}
use Rattle.std.proofs.Math.Dec.{eqb, eqb-suc-zero, eqb-suc-suc}
use Rattle.std.proofs.Common.{arith}
use borrow.Author.Tests.{ne_eqb, not-true, not-false}
use Rattle.reader.specs.Words.{Reader}
use Rattle.reader.specs.Tests.{both, every}
use Rattle.reader.specs.Kinds.{is_rule}
use Rattle.reader.specs.Trees.{lower}
use Rattle.reader.specs.Chains.{items, premises}
use Rattle.reader.specs.TreeLaws.{items_zero, items_step}
use Rattle.reader.specs.Members.{premises_fit}

-- the items of chain c are n rule nodes
unfoldable pub are_nodes : Reader → ℕ → ℕ → Bool
are_nodes rd c n = both (eqb (length (items rd c)) n) (every (λ x. is_rule 2 (rd x 0)) (items rd c))

-- one item more, of one more
one_more : (rule : ℕ → Bool) (x : ℕ) (xs : List ℕ) (n : ℕ) → (n ≡ 0 → ⊥) →
    both (eqb (length (x ∷ xs)) n) (every rule (x ∷ xs)) ≡ both (rule x) (both (eqb (length xs) (n - 1)) (every rule xs))
unfolding every both
one_more rule x xs zero h = absurd (h refl)
one_more rule x xs (suc n) h =
    let z : suc n - 1 ≡ n = omega arith in
    rw (eqb-suc-suc (length xs) n, z) (go (eqb (length xs) n) (rule x) (every rule xs))
  where
    go : (a b e : Bool) → both a (elim b [ true ↦ e | false ↦ false ]) ≡ both b (both a e)
    go true true e = refl
    go true false e = refl
    go false true e = refl
    go false false e = refl

-- The ways out of `are_nodes`: as many items are left as are wanted still.
module _ (rd : Reader) (c n l left : ℕ) (inv : are_nodes rd c n ≡ are_nodes rd l left) where
  pub nodes_end : l ≡ 0 → eqb left 0 ≡ are_nodes rd c n
  unfolding are_nodes both every
  nodes_end h = rw (inv, h, items_zero rd) (go left)
    where
      go : (k : ℕ) → eqb k 0 ≡ both (eqb 0 k) true
      go zero = refl
      go (suc k) = simp (ne_eqb (suc k) 0 (λ z. omega arith), ne_eqb 0 (suc k) (λ z. omega arith))

  pub nodes_over : (l ≡ 0 → ⊥) → left ≡ 0 → false ≡ are_nodes rd c n
  unfolding are_nodes both
  nodes_over h z = rw (inv, z, items_step rd l (omega arith)) (simp (both, eqb-suc-zero (length (items rd (lower rd l 3)))))

  module _ (given : l ≡ 0 → ⊥) (wanted : left ≡ 0 → ⊥) (item k : ℕ) (ei : item ≡ lower rd l 1) (ek : k ≡ rd item 0) (r : Bool) (er : r ≡ is_rule 2 k) where
    turn : (next : ℕ) → next ≡ lower rd l 3 → are_nodes rd c n ≡ both r (are_nodes rd next (left - 1))
    unfolding are_nodes
    turn next e = rw (inv, items_step rd l (omega arith), one_more _ _ _ left wanted, ← ei, ← e, ← ek, ← er) refl

    pub nodes_stop : not r ≡ true → false ≡ are_nodes rd c n
    unfolding both
    nodes_stop h = rw (turn (lower rd l 3) refl) (simp (both, not-true r h))

    pub nodes_more : not r ≡ false → (next : ℕ) → next ≡ lower rd l 3 → are_nodes rd c n ≡ are_nodes rd next (left - 1)
    unfolding both
    nodes_more h next e = rw (turn next e) (simp (both, not-false r h))

-- the premises of a node
pub premises_of : (rd : Reader) (n c count : ℕ) (r : Bool) → c ≡ lower rd n 2 → r ≡ are_nodes rd c count → r ≡ premises_fit 2 rd n count
unfolding premises_fit premises are_nodes
premises_of rd n c count r ec e = rw (← ec) e
