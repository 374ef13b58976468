-- The ways out of the code for lengths and headers, and what they say of counts.
use Rattle.std.specs.Prelude.{ℕ, ◌+◌, ◌-◌, ◌%◌, ◌<◌, ◌≤◌, ◌≡◌, refl, List, Bool, not, leb, length}
use Rattle.std.proofs.Math.Path.{sym}
use Rattle.std.proofs.Common.{◌∙◌, arith}
use Rattle.std.proofs.Math.Bool.{true, false}
use Rattle.std.proofs.lemmas.Bool.{false≢true}
use Rattle.std.proofs.Math.Dec.{eqb}
use borrow.Author.Tests.{eq-eqb, ne_eqb, le-leb, lt-leb, eqb-true, eqb-false, leb-true, not-true, not-false}
use Rattle.reader.specs.Words.{word_of, record_count}
use Rattle.reader.specs.Tests.{both}
use Rattle.reader.specs.Places.{most_records, length_fits, header_fits, count_of, counts_fit}

module _ (mode : ℕ) (s : List ℕ) where
  pub length_short : length s < 16 → false ≡ length_fits mode s
  unfolding length_fits both
  length_short h = simp (length_fits, both, lt-leb 16 (length s) h)

  module _ (long : 16 ≤ length s) where
    pub length_odd : (length s % 16 ≡ 0 → ⊥) → false ≡ length_fits mode s
    unfolding length_fits both
    length_odd h = simp (length_fits, both, le-leb 16 (length s) long, ne_eqb (length s % 16) 0 h)

    pub length_whole : length s % 16 ≡ 0 → (n l : ℕ) → n ≡ record_count s → l ≡ most_records mode → leb n l ≡ length_fits mode s
    unfolding length_fits both
    length_whole h n l en el = simp (length_fits, both, le-leb 16 (length s) long, eq-eqb (length s % 16) 0 h, ← en, ← el)

module _ (s : List ℕ) (k : ℕ) (ek : k ≡ word_of s 0 0) where
  pub header_kind : (k ≡ 1 → ⊥) → false ≡ header_fits s
  unfolding header_fits both
  header_kind h = simp (header_fits, both, ← ek, ne_eqb k 1 h)

  module _ (one : k ≡ 1) (n : ℕ) (en : n ≡ record_count s) where
    pub header_empty : n ≡ 0 → false ≡ header_fits s
    unfolding header_fits both
    header_empty z = simp (header_fits, both, ← ek, eq-eqb k 1 one, ← en, ne_eqb (word_of s 0 1 + 1) n (omega arith))

    pub header_count : (n ≡ 0 → ⊥) → (w : ℕ) → w ≡ word_of s 0 1 → eqb w (n - 1) ≡ header_fits s
    unfolding header_fits both
    header_count p w ew = simp (header_fits, both, ← ek, eq-eqb k 1 one, ← en, ← ew) (go (eqb w (n - 1)) refl)
      where
        go : (b : Bool) → eqb w (n - 1) ≡ b → eqb w (n - 1) ≡ eqb (w + 1) n
        go true e = e ∙ sym (eq-eqb (w + 1) n (omega (arith, eqb-true w (n - 1) e)))
        go false e = let no = eqb-false w (n - 1) e in e ∙ sym (ne_eqb (w + 1) n (λ q. no (omega arith)))

module _ (obligation s : List ℕ) (t : Bool) (et : t ≡ header_fits s) where
  pub counts_header : not t ≡ true → false ≡ counts_fit obligation s
  unfolding counts_fit both
  counts_header h = simp (counts_fit, both, ← et, not-true t h)

  pub counts_count : not t ≡ false → (a b : ℕ) → a ≡ word_of s 0 3 → b ≡ word_of obligation 0 1 → eqb a b ≡ counts_fit obligation s
  unfolding counts_fit both
  counts_count h a b ea eb = simp (counts_fit, both, ← et, not-false t h, ← ea, ← eb)

-- what a length and a header that fit say of the count
both_in : (a b : Bool) → both a b ≡ true → (a ≡ true) × (b ≡ true)
unfolding both
both_in true b h = (refl, h)
both_in false b h = absurd (false≢true h)

pub records_most : (mode : ℕ) (s : List ℕ) → length_fits mode s ≡ true → record_count s ≤ most_records mode
unfolding length_fits
records_most mode s h = leb-true (record_count s) (most_records mode) (both_in _ _ (both_in _ _ h).1).1

pub count_is : (s : List ℕ) → header_fits s ≡ true → count_of s + 1 ≡ record_count s
unfolding header_fits
count_is s g = eqb-true (word_of s 0 1 + 1) (record_count s) (both_in _ _ g).1

pub count_below : (mode : ℕ) (s : List ℕ) → length_fits mode s ≡ true → header_fits s ≡ true → count_of s < most_records mode
count_below mode s h g = omega (arith, records_most mode s h, count_is s g)

pub counts_in : (obligation s : List ℕ) → counts_fit obligation s ≡ true → header_fits s ≡ true
unfolding counts_fit
counts_in obligation s h = (both_in _ _ h).0
