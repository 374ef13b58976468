-- Laws of loops over a chain.
use Rattle.std.specs.Prelude.{ℕ, zero, suc, ◌-◌, ◌<◌, ◌≡◌, refl, true, false, eqb, leb, length}
use Rattle.std.proofs.Common.{sym, ap, ◌∙◌, arith, le-leb}
use Rattle.std.proofs.Math.Dec.{leb-suc-suc}
use Rattle.std.proofs.lemmas.Bool.{lt-leb}
use borrow.Author.Tests.{ne_eqb}
use Rattle.reader.specs.Words.{Reader}
use Rattle.reader.specs.Trees.{lower}
use Rattle.reader.specs.Chains.{linked}
use Rattle.reader.specs.TreeLaws.{lower_below, linked_zero, linked_step_lem}

-- one record, and those of the rest of the chain
pub linked_length : (rd : Reader) (c : ℕ) → (c ≡ 0 → ⊥) → length (linked rd c) ≡ suc (length (linked rd (lower rd c 3)))
linked_length rd c p = ap length (linked_step_lem rd c (omega arith))

pub linked_none : (rd : Reader) → length (linked rd 0) ≡ 0
linked_none rd = ap length (linked_zero rd)

-- The loop of `at_most`: what is left of the count and of the chain gives the answer.
module _ (rd : Reader) (c most left at : ℕ) (inv : leb (length (linked rd c)) most ≡ leb (length (linked rd at)) left) where
  pub most_stop : (at ≡ 0 → ⊥) → left ≡ 0 → false ≡ leb (length (linked rd c)) most
  most_stop p h = sym (inv ∙ lt-leb (length (linked rd at)) left (omega (arith, linked_length rd at p)))

  pub most_end : at ≡ 0 → true ≡ leb (length (linked rd c)) most
  most_end h = let none : length (linked rd at) ≡ 0 = rw h (linked_none rd) in sym (inv ∙ le-leb (length (linked rd at)) left (omega arith))

  pub most_out : left ≡ 0 → eqb at 0 ≡ leb (length (linked rd c)) most
  most_out h = go at refl
    where
      go : (x : ℕ) → at ≡ x → eqb x 0 ≡ leb (length (linked rd c)) most
      go zero e = most_end e
      go (suc x) e = ne_eqb (suc x) 0 (λ z. omega arith) ∙ most_stop (λ z. omega arith) h

  pub most_more : (at ≡ 0 → ⊥) → (left ≡ 0 → ⊥) → (next : ℕ) → next ≡ lower rd at 3 → leb (length (linked rd c)) most ≡ leb (length (linked rd next)) (left - 1)
  most_more p q next e =
      let one : left ≡ suc (left - 1) = omega arith in
      inv ∙ ap (λ (n : ℕ). leb n left) (linked_length rd at p) ∙ ap (λ (n : ℕ). leb (suc (length (linked rd (lower rd at 3)))) n) one
      ∙ leb-suc-suc (length (linked rd (lower rd at 3))) (left - 1) ∙ ap (λ (n : ℕ). leb (length (linked rd n)) (left - 1)) (sym e)

-- a chain falls
pub next_falls : (rd : Reader) (at next : ℕ) → (at ≡ 0 → ⊥) → next ≡ lower rd at 3 → next < at
next_falls rd at next p e = omega (arith, lower_below rd at 3 (omega arith))
