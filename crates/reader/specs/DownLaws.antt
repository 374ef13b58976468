-- The unfolding law of recursion on record numbers.
use Rattle.std.specs.Prelude.{ℕ, zero, suc, ◌<◌, ◌≡◌, refl}
use Rattle.std.proofs.Common.{arith}
use Rattle.reader.specs.Down.{iter, down}

-- F looks at smaller numbers only
abbrev pub Local : {A : Type 0} → ((ℕ → A) → ℕ → A) → Type 0
Local {A} F = (f g : ℕ → A) (i : ℕ) → 0 < i → ((j : ℕ) → j < i → f j ≡ g j) → F f i ≡ F g i

iter_fuel : {A : Type 0} (d : A) (F : (ℕ → A) → ℕ → A) → Local F → (m n i : ℕ) → i < suc m → i < suc n → iter d F m i ≡ iter d F n i
unfolding iter
iter_fuel d F l zero zero i p q = refl
iter_fuel d F l zero (suc n) zero p q = refl
iter_fuel d F l zero (suc n) (suc i) p q = absurd (omega arith)
iter_fuel d F l (suc m) zero zero p q = refl
iter_fuel d F l (suc m) zero (suc i) p q = absurd (omega arith)
iter_fuel d F l (suc m) (suc n) zero p q = refl
iter_fuel d F l (suc m) (suc n) (suc i) p q =
    l (λ j. iter d F m j) (λ j. iter d F n j) (suc i) (omega arith) (λ j h. iter_fuel d F l m n j (omega arith) (omega arith))

pub down_zero : {A : Type 0} (d : A) (F : (ℕ → A) → ℕ → A) → down d F 0 ≡ d
unfolding down iter
down_zero d F = refl

-- the unfolding law
pub down_step : {A : Type 0} (d : A) (F : (ℕ → A) → ℕ → A) → Local F → (i : ℕ) → 0 < i → down d F i ≡ F (down d F) i
unfolding down iter
down_step d F l zero p = absurd (omega arith)
down_step d F l (suc i) p =
    l (λ j. iter d F i j) (down d F) (suc i) p (λ j h. iter_fuel d F l i j j h (omega arith))
