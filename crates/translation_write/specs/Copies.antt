-- The proof's own records, copied one after the other.
use Prim.Native.Nat.{ℕ, zero, suc, ◌+◌, ◌*◌, ◌≤◌}
use Rattle.std.specs.Prelude.{◌≡◌, Bool, drop}
use Rattle.std.proofs.Math.Path.{refl, ap}
use Rattle.std.proofs.Common.{◌∙◌, arith}
use mathlib.Core.List.{List}
use Rattle.std.proofs.Math.Bool.{true, false}
use Rattle.std.proofs.Math.ListN.{length, take, length-append, length-drop}
use Rattle.std.proofs.Math.Seq.{length-take-le}
use Rattle.std.proofs.Math.Numerals.{add-one}
use Rattle.reader.specs.Words.{Reader}
use Rattle.reader.specs.Tests.{if_true}
use Rattle.reader.specs.TestLaws.{true_yes, true_no}
use Rattle.reader.specs.Kinds.{modes, kinds, is_rule}
use Rattle.translation_rules.specs.Bytes.{bytes16, copy_bytes, copies_bytes}
use Rattle.translation_write.specs.Put.{put, put_nothing, put_put}

module _ (rd : Reader) (pf : List ℕ) (m : ℕ) where
  -- The ways out of `put_copy`.
  module _ (r k : ℕ) (b : Bool) (ek : k ≡ rd (m + r) 0) (eb : b ≡ is_rule modes.proof k) (old l : List ℕ) where
    test_is : b ≡ is_rule modes.proof (rd (m + r) 0)
    test_is = eb ∙ ap (is_rule modes.proof) ek

    pub copy_rule : b ≡ true → l ≡ put old (16 * r) (bytes16 kinds.false 0 0 0) → l ≡ put old (16 * r) (copy_bytes rd pf m r)
    unfolding copy_bytes
    copy_rule h e = e ∙ ap (put old (16 * r)) (true_yes (is_rule modes.proof (rd (m + r) 0)) b _ _ _ test_is h refl)

    pub copy_other : b ≡ false → l ≡ put old (16 * r) (take 16 (drop (16 * r) pf)) → l ≡ put old (16 * r) (copy_bytes rd pf m r)
    unfolding copy_bytes
    copy_other h e = e ∙ ap (put old (16 * r)) (true_no (is_rule modes.proof (rd (m + r) 0)) b _ _ _ test_is h refl)

  length_copy : (r : ℕ) → 16 * r + 16 ≤ length pf → length (copy_bytes rd pf m r) ≡ 16
  unfolding copy_bytes if_true
  length_copy r h = go (is_rule modes.proof (rd (m + r) 0))
    where
      go : (b : Bool) →
          length {A = ℕ} (elim b as (λ x. List ℕ) [ true ↦ bytes16 kinds.false 0 0 0 | false ↦ take 16 (drop (16 * r) pf) ]) ≡ 16
      go true = refl
      go false = length-take-le 16 (drop (16 * r) pf) (omega (arith, length-drop (16 * r) pf))

  pub length_copies : (c : ℕ) → 16 * c + 16 ≤ length pf → length (copies_bytes rd pf m c) ≡ 16 * c
  unfolding copies_bytes
  length_copies zero h = refl
  length_copies (suc c) h =
      length-append (copies_bytes rd pf m c) (copy_bytes rd pf m (suc c)) ∙ omega (arith, length_copies c (omega arith), length_copy (suc c) h)

  -- The loop of `put_copies`.
  pub copies_none : (old : List ℕ) (at : ℕ) → old ≡ put old at (copies_bytes rd pf m 0)
  unfolding copies_bytes
  copies_none old at = put_nothing old at

  pub copies_more : (old l now : List ℕ) (c : ℕ) → 16 * (c + 1) + 16 ≤ length pf → 16 * (c + 1) + 16 ≤ length old → l ≡ put old 16 (copies_bytes rd pf m c) →
      now ≡ put l (16 * (c + 1)) (copy_bytes rd pf m (c + 1)) → now ≡ put old 16 (copies_bytes rd pf m (c + 1))
  unfolding copies_bytes
  copies_more old l now c p q e e1 =
      let before : length (copies_bytes rd pf m c) ≡ 16 * c = length_copies c (omega arith) in
      let own : length (copy_bytes rd pf m (suc c)) ≡ 16 = length_copy (suc c) (omega arith) in
      e1
      ∙ rw (e, add-one c)
      (put_put old 16 (copies_bytes rd pf m c) (copy_bytes rd pf m (suc c)) (16 * suc c) (omega arith) (omega arith))

  pub copies_end : (old l : List ℕ) (at c n : ℕ) → c ≤ n → n ≤ c → l ≡ put old at (copies_bytes rd pf m c) → l ≡ put old at (copies_bytes rd pf m n)
  copies_end old l at c n p q e = let same : c ≡ n = omega arith in e ∙ ap (λ (x : ℕ). put old at (copies_bytes rd pf m x)) same
