-- Bits of a word, and a word with one bit more.
use Prim.Native.Nat.{ℕ, ◌+◌, ◌*◌, ◌-◌, ◌/◌, ◌%◌, ◌^◌, ◌<◌, ◌≤◌, max}
use Rattle.std.specs.Prelude.{◌≡◌, refl, Bool, true, false, eqb, ltb}
use Rattle.std.proofs.Common.{ap, ◌∙◌, pow_pos, pow-add, shl_exact, one-mul}
use Rattle.std.specs.Int.Bits.{bit_or, or_step}
use Rattle.std.proofs.lemmas.Nat.{or_shr, shl-shr}
use Rattle.std.proofs.Math.Pow.{pow-lt}
use Rattle.std.proofs.Math.Nat.{div_self, div-eq_of_lt, zero-div, le-max_left, le-max_right, max-le}
use native.Mathlib.Omega.{arith}
use borrow.Author.Tests.{eqb-true, eq-eqb, ltb-true, ltb-false}

-- bit k of word v
unfoldable pub bit_at : ℕ → ℕ → Bool
bit_at v k = eqb (v / 2 ^ k % 2) 1

-- a word of zeros has none
pub bit_zero : (k : ℕ) → bit_at 0 k ≡ false
unfolding bit_at
bit_zero k = rw (zero-div (2 ^ k)) refl

-- `1 << k` of 64 bits
pub one_shifted : (k : ℕ) → k < 64 → (1 * 2 ^ k) % 2 ^ 64 ≡ 2 ^ k
one_shifted k h = shl_exact {a = 1} 1 k 64 (omega arith) (omega arith) ∙ one-mul (2 ^ k)

-- the one bit of a power
power_own : (k : ℕ) → 2 ^ k / 2 ^ k % 2 ≡ 1
power_own k = rw (div_self (pow_pos k)) refl

power_other : (k i : ℕ) → (i ≡ k → ⊥) → 2 ^ k / 2 ^ i % 2 ≡ 0
power_other k i h = go (ltb k i) refl
  where
    go : (b : Bool) → ltb k i ≡ b → 2 ^ k / 2 ^ i % 2 ≡ 0
    go true e = rw (div-eq_of_lt (pow-lt (ltb-true k i e))) refl
    go false e =
        let more : k ≡ (k - i - 1) + 1 + i = omega (arith, ltb-false k i e) in
        let apart : 2 ^ k ≡ 2 ^ (k - i - 1) * 2 * 2 ^ i = ap (λ (x : ℕ). 2 ^ x) more ∙ pow-add 2 (k - i - 1 + 1) i ∙ ap (λ (x : ℕ). x * 2 ^ i) (pow-add 2 (k - i - 1) 1) in
        let low : 2 ^ k / 2 ^ i ≡ 2 ^ (k - i - 1) * 2 = ap (λ (x : ℕ). x / 2 ^ i) apart ∙ shl-shr (2 ^ (k - i - 1) * 2) i in
        let even : (q : ℕ) → q * 2 % 2 ≡ 0 = (λ q. omega arith) in
        rw low (even (2 ^ (k - i - 1)))

-- the bits of `a | b`
or_bit : (a b i : ℕ) → bit_or a b / 2 ^ i % 2 ≡ max (a / 2 ^ i % 2) (b / 2 ^ i % 2)
or_bit a b i = ap (λ (x : ℕ). x % 2) (or_shr a b i ∙ or_step (a / 2 ^ i) (b / 2 ^ i)) ∙ last (bit_or (a / 2 ^ i / 2) (b / 2 ^ i / 2)) (max (a / 2 ^ i % 2) (b / 2 ^ i % 2)) (max-le (omega arith) (omega arith))
  where
    last : (q m : ℕ) → m ≤ 1 → (q * 2 + m) % 2 ≡ m
    last q m h = omega arith

-- A word with bit k.
module _ (v k : ℕ) where
  pub bit_own : bit_at (bit_or v (2 ^ k)) k ≡ true
  unfolding bit_at
  bit_own =
      let own : 2 ^ k / 2 ^ k % 2 ≡ 1 = power_own k in
      let least : 2 ^ k / 2 ^ k % 2 ≤ max (v / 2 ^ k % 2) (2 ^ k / 2 ^ k % 2) = le-max_right (v / 2 ^ k % 2) (2 ^ k / 2 ^ k % 2) in
      let small : bit_or v (2 ^ k) / 2 ^ k % 2 < 2 = omega arith in
      eq-eqb (bit_or v (2 ^ k) / 2 ^ k % 2) 1 (omega (arith, or_bit v (2 ^ k) k))

  pub bit_kept : (i : ℕ) → bit_at v i ≡ true → bit_at (bit_or v (2 ^ k)) i ≡ true
  unfolding bit_at
  bit_kept i h =
      let one : v / 2 ^ i % 2 ≡ 1 = eqb-true (v / 2 ^ i % 2) 1 h in
      let least : v / 2 ^ i % 2 ≤ max (v / 2 ^ i % 2) (2 ^ k / 2 ^ i % 2) = le-max_left (v / 2 ^ i % 2) (2 ^ k / 2 ^ i % 2) in
      let small : bit_or v (2 ^ k) / 2 ^ i % 2 < 2 = omega arith in
      eq-eqb (bit_or v (2 ^ k) / 2 ^ i % 2) 1 (omega (arith, or_bit v (2 ^ k) i))

  pub bit_only : (i : ℕ) → (i ≡ k → ⊥) → bit_at (bit_or v (2 ^ k)) i ≡ true → bit_at v i ≡ true
  unfolding bit_at
  bit_only i other h =
      let one : bit_or v (2 ^ k) / 2 ^ i % 2 ≡ 1 = eqb-true (bit_or v (2 ^ k) / 2 ^ i % 2) 1 h in
      let none : 2 ^ k / 2 ^ i % 2 ≡ 0 = power_other k i other in
      let most : max (v / 2 ^ i % 2) (2 ^ k / 2 ^ i % 2) ≤ v / 2 ^ i % 2 = max-le (omega arith) (omega arith) in
      let small : v / 2 ^ i % 2 < 2 = omega arith in
      eq-eqb (v / 2 ^ i % 2) 1 (omega (arith, or_bit v (2 ^ k) i))
