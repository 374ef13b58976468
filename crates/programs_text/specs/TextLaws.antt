-- Laws of text put behind other text.
use Rattle.std.specs.Prelude.{ℕ, ◌+◌, ◌-◌, ◌≤◌, ◌≡◌, refl, List, [], ◌++◌, length, take, drop}
use Rattle.std.proofs.Common.{sym, ap, ◌∙◌, append_assoc, append-nil, arith, length-append, length-take, length-drop, drop_of_length-le, take_all, take_at, drop_at, drop-drop, length-take-le}
use Rattle.std.proofs.Math.Seq.{take-length}
use Rattle.programs_text.specs.Text.{Appended}

-- the area's part from `at` on, with the text at its start, put back
module _ (area text : List ℕ) (at : ℕ) (room : at + length text ≤ length area) where
  part_whole : take (length area - at) (drop at area) ≡ drop at area
  part_whole = take_all (length area - at) (drop at area) (omega (arith, length-drop at area))

  part_end : drop (length area - at) (drop at area) ≡ []
  part_end = drop_of_length-le (drop at area) {i = length area - at} (omega (arith, length-drop at area))

  head_length : length (take at area ++ text) ≡ at + length text
  head_length = omega (arith, length-append (take at area) text, length-take-le at area (omega arith))

  pub part_appended : (part : List ℕ) (r : ℕ) → r ≡ length text →
      part ≡ take (length text) text ++ drop (length text) (take (length area - at) (drop at area)) →
      Appended area at text (take at area ++ (part ++ drop (length area - at) (drop at area))) (at + r)
  part_appended part r e h =
      let rest : drop (length text) (drop at area) ≡ drop (at + length text) area = drop-drop (length text) at area in
      let all : take at area ++ (part ++ drop (length area - at) (drop at area)) ≡ take at area ++ text ++ drop (at + length text) area =
      rw (part_end, append-nil part, h, take-length text, part_whole, rest) (sym (append_assoc (take at area) text (drop (at + length text) area))) in
      record {
        ends = omega arith;
        stands = rw (all, e) (take_at (take at area ++ text) (drop (at + length text) area) (at + length text) head_length);
        kept = rw (all, e) (drop_at (take at area ++ text) (drop (at + length text) area) (at + length text) head_length);
      }

  -- the text in the place of as many bytes
  pub text_appended : (n : ℕ) → n ≡ length text → Appended area at text (take at area ++ (text ++ drop n (drop at area))) (at + length text)
  text_appended n e =
      let rest : drop (length text) (drop at area) ≡ drop (at + length text) area = drop-drop (length text) at area in
      let all : take at area ++ (text ++ drop n (drop at area)) ≡ take at area ++ text ++ drop (at + length text) area =
      rw (e, rest) (sym (append_assoc (take at area) text (drop (at + length text) area))) in
      record {
        ends = refl;
        stands = rw all (take_at (take at area ++ text) (drop (at + length text) area) (at + length text) head_length);
        kept = rw all (drop_at (take at area ++ text) (drop (at + length text) area) (at + length text) head_length);
      }

-- no text
pub appended_none : (area : List ℕ) (at : ℕ) → Appended area at [] area at
appended_none area at = record { ends = omega arith; stands = sym (append-nil (take at area)); kept = refl }

-- a text, and then another
pub appended_more : (before first middle second after : List ℕ) (at end last : ℕ) → Appended before at first middle end →
    Appended middle end second after last → Appended before at (first ++ second) after last
appended_more before first middle second after at end last one two =
    let more : end + length second ≡ last = sym two.ends in
    let behind : (l : List ℕ) → drop last l ≡ drop (length second) (drop end l) = λ l. rw (← more) (sym (drop-drop (length second) end l)) in
    record {
      ends = omega (arith, length-append first second, one.ends);
      stands = two.stands ∙ ap (λ (l : List ℕ). l ++ second) one.stands ∙ append_assoc (take at before) first second;
      kept = two.kept ∙ behind middle ∙ ap (drop (length second)) one.kept ∙ sym (behind before);
    }

-- A text at the area's start: the slice up to its end is as long as it, and within the area.
module _ (before text after : List ℕ) (end : ℕ) (w : Appended before 0 text after end) where
  pub start_length : end ≡ length (take end after)
  start_length = omega (arith, w.ends, ap length w.stands)

  pub start_within : end ≤ length after
  start_within = omega (arith, start_length, length-take end after)
