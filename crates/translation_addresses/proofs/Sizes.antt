-- How many records a block of the translation has.
use Prim.Native.Nat.{ℕ, ◌+◌, ◌≤◌}
use Rattle.std.specs.Prelude.{◌≡◌, List, Bool, eqb}
use Rattle.std.proofs.Math.Path.{refl}
use Rattle.std.proofs.Math.Bool.{true, false}
use Rattle.std.proofs.Math.ListN.{length}
use native.Mathlib.Omega.{arith}
use borrow.Author.Tests.{eqb-false}
use Rattle.reader.specs.Tests.{if_eq}
use Rattle.translation_rules.specs.Templates.{Line, template}
use Rattle.translation_rules.specs.Templates.{lines32, lines33, lines34, lines35, lines36, lines37, lines38, lines39}
use Rattle.translation_rules.specs.Templates.{lines40, lines41, lines42, lines43, lines44, lines45, lines46}

-- a block has at least its concluding node, and the longest one, that of ¬∧, has 21 records
pub record Sized (xs : List Line) : Type 0 where
  pub least : 1 ≤ length xs
  pub most : length xs ≤ 21

-- the template of a kind from a on: that of a, or one of those after it
sized_from : (k a : ℕ) (xs ys : List Line) → Sized xs → a ≤ k → (a + 1 ≤ k → Sized ys) → Sized (if_eq k a xs ys)
unfolding if_eq
sized_from k a xs ys own low rest = go (eqb k a) refl
  where
    go : (b : Bool) → eqb k a ≡ b → Sized (elim b as (λ x. List Line) [ true ↦ xs | false ↦ ys ])
    go true e = own
    go false e = let differ : k ≡ a → ⊥ = eqb-false k a e in rest (omega arith)

pub template_sized : (k : ℕ) → 32 ≤ k → k ≤ 46 → Sized (template k)
unfolding template
template_sized k h most =
    sized_from k 32 lines32 _ (omega arith) h λ h.
    sized_from k 33 lines33 _ (omega arith) h λ h.
    sized_from k 34 lines34 _ (omega arith) h λ h.
    sized_from k 35 lines35 _ (omega arith) h λ h.
    sized_from k 36 lines36 _ (omega arith) h λ h.
    sized_from k 37 lines37 _ (omega arith) h λ h.
    sized_from k 38 lines38 _ (omega arith) h λ h.
    sized_from k 39 lines39 _ (omega arith) h λ h.
    sized_from k 40 lines40 _ (omega arith) h λ h.
    sized_from k 41 lines41 _ (omega arith) h λ h.
    sized_from k 42 lines42 _ (omega arith) h λ h.
    sized_from k 43 lines43 _ (omega arith) h λ h.
    sized_from k 44 lines44 _ (omega arith) h λ h.
    sized_from k 45 lines45 _ (omega arith) h λ h.
    sized_from k 46 lines46 _ (omega arith) h λ h.
    absurd (omega arith)
