-- A file longer than any accepted one: one byte more than the longest says as much as the whole.
use Rattle.std.specs.Prelude.{ℕ, ◌+◌, ◌*◌, ◌/◌, ◌%◌, ◌<◌, ◌≡◌, refl, List, Bool, true, false, eqb, leb, ltb, length, take}
use Rattle.std.proofs.Common.{sym, ◌∙◌, arith, ltb-true, ltb-false, eqb-true, length-take, take_all}
use Rattle.std.proofs.lemmas.Bool.{lt-leb}
use Rattle.reader.specs.declared.Answer.{Answer}
use Rattle.reader.specs.Answers.{answer, or_answer, placed}
use Rattle.reader.specs.Tests.{both, demand}
use Rattle.reader.specs.Words.{record_count}
use Rattle.reader.specs.Places.{most_records, length_fits, obligation_reading, second_reading, reading}

-- the bytes of a longest file of its kind
abbrev pub most_bytes : ℕ → ℕ
most_bytes mode = 16 * most_records mode

both_false : (a : Bool) → both a false ≡ false
unfolding both
both_false true = refl
both_false false = refl

-- a file of more bytes than its kind may have
too_long : (mode : ℕ) (s : List ℕ) → most_bytes mode < length s → length_fits mode s ≡ false
unfolding length_fits record_count both
too_long mode s h = go (eqb (length s % 16) 0) refl
  where
    go : (b : Bool) → eqb (length s % 16) 0 ≡ b → length_fits mode s ≡ false
    go false e = rw e (both_false (leb 16 (length s)))
    go true e =
        let whole = eqb-true (length s % 16) 0 e in
        rw (e, lt-leb (length s / 16) (most_records mode) (omega arith)) (both_false (leb 16 (length s)))

obligation_long : (ob : List ℕ) → most_bytes 0 < length ob → obligation_reading ob ≡ answer 1 1 0 0
unfolding obligation_reading placed demand or_answer
obligation_long ob h = simp (obligation_reading, too_long 0 ob h, placed, demand, or_answer)

second_long : (mode : ℕ) (ob s : List ℕ) → most_bytes mode < length s → second_reading mode ob s ≡ answer 1 2 0 0
unfolding second_reading placed demand or_answer
second_long mode ob s h = simp (second_reading, too_long mode s h, placed, demand, or_answer)

-- a value that all longer lists share is that of their first bytes
pub cut : {A : Type 0} (most : ℕ) (f : List ℕ → A) (r : A) → ((s : List ℕ) → most < length s → f s ≡ r) → (s : List ℕ) → f (take (most + 1) s) ≡ f s
cut most f r refused s = go (ltb most (length s)) refl
  where
    go : (b : Bool) → ltb most (length s) ≡ b → f (take (most + 1) s) ≡ f s
    go false e = let short = ltb-false most (length s) e in rw (take_all (most + 1) s (omega arith))
    go true e =
        let long = ltb-true most (length s) e in
        refused (take (most + 1) s) (omega (arith, length-take (most + 1) s)) ∙ sym (refused s long)

-- nothing after a refusal of the second file's length counts
stays : (a w : Answer) → or_answer (or_answer a (answer 1 2 0 0)) w ≡ or_answer a (answer 1 2 0 0)
unfolding or_answer
stays a w = go (eqb a.refusal 0) refl
  where
    go : (b : Bool) → eqb a.refusal 0 ≡ b → or_answer (or_answer a (answer 1 2 0 0)) w ≡ or_answer a (answer 1 2 0 0)
    go true e = simp (or_answer, e)
    go false e = simp (or_answer, e)

-- an answer that begins by the places 1 to 12
abbrev pub after_reading : ℕ → (List ℕ → List ℕ → Answer) → List ℕ → List ℕ → Answer
after_reading mode rest ob s = or_answer (reading mode ob s) (rest ob s)

-- A file longer than any accepted one is still answered rightly where one byte more than the limit is read, whatever follows the reading
module _ (mode : ℕ) (rest : List ℕ → List ℕ → Answer) where
  pub obligation_refused : (s ob : List ℕ) → most_bytes 0 < length ob → after_reading mode rest ob s ≡ answer 1 1 0 0
  unfolding reading or_answer
  obligation_refused s ob h = simp (reading, obligation_long ob h, or_answer)

  pub second_refused : (ob s : List ℕ) → most_bytes mode < length s → after_reading mode rest ob s ≡ or_answer (obligation_reading ob) (answer 1 2 0 0)
  unfolding reading
  second_refused ob s h = simp (reading, second_long mode ob s h) (stays (obligation_reading ob) (rest ob s))

  pub enough :
      (first second : ℕ) →
      first ≡ most_bytes 0 + 1 →
      second ≡ most_bytes mode + 1 →
      (ob s : List ℕ) →
      after_reading mode rest (take first ob) (take second s) ≡ after_reading mode rest ob s
  enough first second e f ob s =
      rw (e, f) (cut (most_bytes 0) (λ a. after_reading mode rest a (take (most_bytes mode + 1) s)) _ (obligation_refused (take (most_bytes mode + 1) s)) ob
      ∙ cut (most_bytes mode) (λ b. after_reading mode rest ob b) _ (second_refused ob) s)
