-- The premises of a node, and the ways out of the code that counts them.
use Prim.Native.Nat.{ℕ, zero, suc, ◌-◌}
use Rattle.std.specs.Prelude.{◌≡◌, List, ◌∷◌, map, Bool, false, not, length}
use Rattle.std.proofs.Math.Path.{refl}
use Rattle.std.proofs.Math.Bool.{true}
use Rattle.std.proofs.Math.Dec.{eqb, eqb-suc-zero, eqb-suc-suc}
use Rattle.std.proofs.Common.{arith}
use borrow.Author.Tests.{ne_eqb, not-true, not-false}
use Rattle.reader.specs.Words.{Reader}
use Rattle.reader.specs.Tests.{both, every}
use Rattle.reader.specs.Kinds.{is_rule}
use Rattle.reader.specs.Trees.{lower, tree}
use Rattle.reader.specs.Chains.{items, premises, parts}
use Rattle.reader.specs.TreeLaws.{items_zero, items_step}
use Rattle.proof_rules.specs.Check.{row_of}
use Rattle.reader.specs.Members.{premises_fit}
use Rattle.proof_references.specs.declared.References.{References}
use Rattle.proof_references.specs.References.{ReferencesAre}
use Rattle.reader_bytes.specs.Bytes.{premises_of}
use Rattle.proof_bytes.specs.Bytes.{proof_byte}
use Rattle.proof_bytes.proofs.Rows.{proof_premises}

-- the items of chain c are n rule nodes
unfoldable pub are_nodes : Reader → ℕ → ℕ → Bool
are_nodes rd c n = both (eqb (length (items rd c)) n) (every (λ x. is_rule 1 (rd x 0)) (items rd c))

-- one item more, of one more
one_more : (rule : ℕ → Bool) (x : ℕ) (xs : List ℕ) (n : ℕ) → (n ≡ 0 → ⊥) →
    both (eqb (length (x ∷ xs)) n) (every rule (x ∷ xs)) ≡ both (rule x) (both (eqb (length xs) (n - 1)) (every rule xs))
unfolding every both
one_more rule x xs zero h = absurd (h refl)
one_more rule x xs (suc n) h =
    let z : suc n - 1 ≡ n = omega arith in
    rw (eqb-suc-suc (length xs) n, z) (go (eqb (length xs) n) (rule x) (every rule xs))
  where
    go : (a b e : Bool) → both a (elim b [ true ↦ e | false ↦ false ]) ≡ both b (both a e)
    go true true e = refl
    go true false e = refl
    go false true e = refl
    go false false e = refl

-- the ends of a chain, and one link of it
module _ (rd : Reader) where
  end_is : (n : ℕ) → eqb n 0 ≡ are_nodes rd 0 n
  unfolding are_nodes both every
  end_is n = rw (items_zero rd) (go n)
    where
      go : (k : ℕ) → eqb k 0 ≡ both (eqb 0 k) true
      go zero = refl
      go (suc k) = simp (ne_eqb (suc k) 0 (λ z. omega arith), ne_eqb 0 (suc k) (λ z. omega arith))

  over_is : (l : ℕ) → (l ≡ 0 → ⊥) → false ≡ are_nodes rd l 0
  unfolding are_nodes both
  over_is l h = rw (items_step rd l (omega arith)) (simp (both, eqb-suc-zero (length (items rd (lower rd l 3)))))

  link_is : (l left : ℕ) → (l ≡ 0 → ⊥) → (left ≡ 0 → ⊥) → are_nodes rd l left ≡ both (is_rule 1 (rd (lower rd l 1) 0)) (are_nodes rd (lower rd l 3) (left - 1))
  unfolding are_nodes
  link_is l left h w = rw (items_step rd l (omega arith), one_more _ _ _ left w) refl

-- The ways out of `are_nodes`: what is left of the chain gives the answer.
module _ (rd : Reader) (c n l left : ℕ) (inv : are_nodes rd c n ≡ are_nodes rd l left) where
  pub nodes_end : l ≡ 0 → eqb left 0 ≡ are_nodes rd c n
  nodes_end h = rw (inv, h) (end_is rd left)

  pub nodes_over : (l ≡ 0 → ⊥) → left ≡ 0 → false ≡ are_nodes rd c n
  nodes_over h z = rw (inv, z) (over_is rd l h)

  module _ (given : l ≡ 0 → ⊥) (wanted : left ≡ 0 → ⊥) (link : References) (is : ReferencesAre rd l link) (k : ℕ) (ek : k ≡ rd link.first 0) (r : Bool) (er : r ≡ is_rule 1 k) where
    turn_is : are_nodes rd c n ≡ both r (are_nodes rd link.third (left - 1))
    turn_is = rw (inv, link_is rd l left given wanted, ← is.first_is, ← is.third_is, ← ek, ← er) refl

    pub nodes_stop : not r ≡ true → false ≡ are_nodes rd c n
    unfolding both
    nodes_stop h = rw (turn_is, not-true r h) refl

    pub nodes_more : not r ≡ false → are_nodes rd c n ≡ are_nodes rd link.third (left - 1)
    unfolding both
    nodes_more h = rw (turn_is, not-false r h) refl

-- as many as the byte says
pub nodes_counted : (rd : Reader) (c byte count : ℕ) (r : Bool) → count ≡ premises_of byte → r ≡ are_nodes rd c count → r ≡ are_nodes rd c (premises_of byte)
nodes_counted rd c byte count r en e = rw (← en) e

-- the premises of a node
pub premises_are : (rd : Reader) (n : ℕ) → premises_fit 1 rd n (length (row_of rd n).adds) ≡ are_nodes rd (lower rd n 2) (premises_of (proof_byte (rd n 0)))
unfolding premises_fit row_of premises are_nodes
premises_are rd n = rw (proof_premises (map (tree rd) (parts rd n)) (rd n 0)) refl
