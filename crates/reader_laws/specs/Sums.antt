-- Sums over records 1 to t.
use Prim.Native.Nat.{ℕ, zero, suc, ◌+◌, ◌*◌, ◌≤◌}
use Rattle.std.specs.Prelude.{◌≡◌, Bool, true, false, eqb}
use Rattle.std.proofs.Math.Path.{refl, sym, ap}
use Rattle.std.proofs.Common.{◌∙◌, zero-mul, one-mul, eqb-true}
use native.Mathlib.Omega.{arith}
use Rattle.std.proofs.Math.Nat.{add-mul}
use Rattle.std.proofs.lemmas.Bool.{eqb-false}
use Rattle.reader.specs.Tests.{if_eq}
use Rattle.reader_laws.specs.Scan.{when_equal, when_different}

-- f 1 + … + f t
unfoldable pub sum_to : (ℕ → ℕ) → ℕ → ℕ
sum_to f zero = 0
sum_to f (suc t) = f (suc t) + sum_to f t

-- equal summands
pub sum_same : (f g : ℕ → ℕ) (t : ℕ) → ((x : ℕ) → 1 ≤ x → x ≤ t → f x ≡ g x) → sum_to f t ≡ sum_to g t
unfolding sum_to
sum_same f g zero h = refl
sum_same f g (suc t) h =
    let own : f (suc t) ≡ g (suc t) = h (suc t) (omega arith) (omega arith) in
    let rest : sum_to f t ≡ sum_to g t = sum_same f g t (λ x p q. h x p (omega arith)) in
    omega arith

-- every summand 0
pub sum_none : (f : ℕ → ℕ) (t : ℕ) → ((x : ℕ) → 1 ≤ x → x ≤ t → f x ≡ 0) → sum_to f t ≡ 0
unfolding sum_to
sum_none f zero h = refl
sum_none f (suc t) h =
    let own : f (suc t) ≡ 0 = h (suc t) (omega arith) (omega arith) in
    let rest : sum_to f t ≡ 0 = sum_none f t (λ x p q. h x p (omega arith)) in
    omega arith

-- summands 0 up to m, and at most 1 after it
pub sum_most : (f : ℕ → ℕ) (m n : ℕ) → ((x : ℕ) → 1 ≤ x → x ≤ m → f x ≡ 0) → ((x : ℕ) → f x ≤ 1) → sum_to f (m + n) ≤ n
unfolding sum_to
sum_most f m zero h most =
    let same : m + 0 ≡ m = omega arith in
    let none : sum_to f (m + 0) ≡ 0 = ap (sum_to f) same ∙ sum_none f m h in omega arith
sum_most f m (suc n) h most =
    let same : m + suc n ≡ suc (m + n) = omega arith in
    let split : sum_to f (m + suc n) ≡ f (suc (m + n)) + sum_to f (m + n) = ap (sum_to f) same in
    let own : f (suc (m + n)) ≤ 1 = most (suc (m + n)) in
    let rest : sum_to f (m + n) ≤ n = sum_most f m n h most in
    omega arith

-- Sums of `w x`, each taken as often as a count says.
module _ (w : ℕ → ℕ) where
  -- two counts added
  pub sum_both : (a b : ℕ → ℕ) (t : ℕ) → sum_to (λ x. (a x + b x) * w x) t ≡ sum_to (λ x. a x * w x) t + sum_to (λ x. b x * w x) t
  unfolding sum_to
  sum_both a b zero = refl
  sum_both a b (suc t) =
      let own : (a (suc t) + b (suc t)) * w (suc t) ≡ a (suc t) * w (suc t) + b (suc t) * w (suc t) = add-mul (a (suc t)) (b (suc t)) (w (suc t)) in
      let rest : sum_to (λ x. (a x + b x) * w x) t ≡ sum_to (λ x. a x * w x) t + sum_to (λ x. b x * w x) t = sum_both a b t in
      omega arith

  -- the count of r alone, where 0 counts nothing
  pub sum_one : (r t : ℕ) → w 0 ≡ 0 → r ≤ t → sum_to (λ x. if_eq r x 1 0 * w x) t ≡ w r
  unfolding sum_to
  sum_one r zero z h = let none : r ≡ 0 = omega arith in sym (ap w none ∙ z)
  sum_one r (suc t) z h = go (eqb r (suc t)) refl (λ less. sum_one r t z less)
    where
      once : (x k : ℕ) → if_eq r x 1 0 ≡ k → if_eq r x 1 0 * w x ≡ k * w x
      once x k e = ap (λ (n : ℕ). n * w x) e

      go : (b : Bool) → eqb r (suc t) ≡ b → (r ≤ t → sum_to (λ x. if_eq r x 1 0 * w x) t ≡ w r) →
          if_eq r (suc t) 1 0 * w (suc t) + sum_to (λ x. if_eq r x 1 0 * w x) t ≡ w r
      go true e below =
          let here : r ≡ suc t = eqb-true r (suc t) e in
          let own : if_eq r (suc t) 1 0 * w (suc t) ≡ w r = once (suc t) 1 (when_equal 1 0 r (suc t) here) ∙ one-mul (w (suc t)) ∙ ap w (sym here) in
          let rest : sum_to (λ x. if_eq r x 1 0 * w x) t ≡ 0 =
          sum_none (λ x. if_eq r x 1 0 * w x) t (λ x p q. once x 0 (when_different 1 0 r x (λ same. absurd (omega arith))) ∙ zero-mul (w x)) in
          omega arith
      go false e below =
          let other : r ≡ suc t → ⊥ = eqb-false r (suc t) e in
          let own : if_eq r (suc t) 1 0 * w (suc t) ≡ 0 = once (suc t) 0 (when_different 1 0 r (suc t) other) ∙ zero-mul (w (suc t)) in
          let rest : sum_to (λ x. if_eq r x 1 0 * w x) t ≡ w r = below (omega arith) in
          omega arith
