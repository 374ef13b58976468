-- A claim about what a test selects, from those about both sides.
use Rattle.std.specs.Prelude.{ℕ, ◌<◌, ◌≤◌, ◌≡◌, Bool}
use Rattle.std.proofs.Math.Path.{refl}
use Rattle.std.proofs.Math.Bool.{true, false}
use Rattle.std.proofs.Math.Dec.{eqb, ltb}
use Rattle.std.proofs.Common.{eqb-true, ltb-true, ltb-false}
use Rattle.std.proofs.lemmas.Bool.{eqb-false}
use Rattle.reader.specs.Tests.{if_eq, if_lt, if_true}

module _ {A : Type 0} (P : A → Type 0) {x y : A} where
  pub choose_equal : (a b : ℕ) → (a ≡ b → P x) → ((a ≡ b → ⊥) → P y) → P (if_eq a b x y)
  unfolding if_eq
  choose_equal a b f g = go (eqb a b) refl
    where
      go : (t : Bool) → eqb a b ≡ t → P (elim t as (λ _. A) [ true ↦ x | false ↦ y ])
      go true e = f (eqb-true a b e)
      go false e = g (eqb-false a b e)

  pub choose_less : (a b : ℕ) → (a < b → P x) → (b ≤ a → P y) → P (if_lt a b x y)
  unfolding if_lt
  choose_less a b f g = go (ltb a b) refl
    where
      go : (t : Bool) → ltb a b ≡ t → P (elim t as (λ _. A) [ true ↦ x | false ↦ y ])
      go true e = f (ltb-true a b e)
      go false e = g (ltb-false a b e)

  pub choose_true : (b : Bool) → (b ≡ true → P x) → (b ≡ false → P y) → P (if_true b x y)
  unfolding if_true
  choose_true true f g = f refl
  choose_true false f g = g refl
