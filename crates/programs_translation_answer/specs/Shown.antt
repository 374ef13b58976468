-- What the program makes of two files: the translation in the buffer, and the line that it writes.
use Rattle.std.specs.Prelude.{ℕ, ◌-◌, ◌≡◌, refl, List, Result, Ok, length, take, drop}
use Rattle.std.proofs.Common.{sym, ap, subst, ◌∙◌, arith}
use Rattle.io.specs.Counts.{IsPrefixLen}
use Rattle.io.proofs.Counting.{prefix_len_of_le}
use Rattle.reader.specs.declared.Answer.{Answer}
use Rattle.reader.specs.declared.Refusal.{Refusal}
use Rattle.reader.specs.Answers.{accepted}
use Rattle.proof_rules.specs.Check.{proof_answer}
use Rattle.derivation_rules.specs.Check.{derivation_answer}
use Rattle.translation_rules.specs.Check.{translation_answer}
use Rattle.translation_meaning.specs.Translates.{Translates}
use Rattle.translation.specs.declared.Translation.{Translation}
use Rattle.translation.specs.Numbers.{answer_in, length_in}
use Rattle.programs_lines.specs.Lines.{translation_line, EndsIn}
use Rattle.programs_lines.specs.LineLaws.{line_slice}
use Rattle.programs_limits.specs.Limits.{buffer_size}
use Rattle.programs_limits.proofs.Enough.{room_for_all}

-- A pair is translated into a buffer that held `before` and holds `after`, with answer a and a length; the line of both stands in `out`, which held `blank`, from
-- place `begin` on.
pub record Shown (ob pf before after blank out : List ℕ) (a : Answer) (len begin : ℕ) : Type 0 where
  -- by this the first `len` bytes are a derivation that the derivation check accepts, where the answer accepts
  pub translated : Translates ob pf before after (translation_answer ob pf (length before)) len
  -- the derivation is saved where its refusal is 0
  pub answer_is : a ≡ translation_answer ob pf (length before)
  pub line_is : EndsIn 105 (translation_line (translation_answer ob pf (length before)) len) blank out begin
  pub inside : IsPrefixLen len after

-- the derivation check accepts the bytes beside the obligation
abbrev pub Derives : List ℕ → List ℕ → Type 0
Derives ob dv = (j : ℕ) × (derivation_answer ob dv ≡ accepted j)

-- the translation's own contract, and the line of the numbers that it gives
pub shown : (ob pf before after blank out : List ℕ) (a x : Answer) (len n begin : ℕ) → Translates ob pf before after a len → x ≡ a → n ≡ len
    → EndsIn 105 (translation_line x n) blank out begin → length before ≡ length after → Shown ob pf before after blank out a len begin
shown ob pf before after blank out a x len n begin t ex en l e = record {
  translated = rw (← t.answers) t;
  answer_is = t.answers;
  line_is = rw (← t.answers, ← ex, ← en) l;
  inside = prefix_len_of_le len after (omega (arith, t.within));
}

-- where the answer's refusal is 0 the buffer's bytes up to the length are a derivation
pub shown_derives : (ob pf before after blank out : List ℕ) (a : Answer) (len begin : ℕ) → Shown ob pf before after blank out a len begin → a.refusal ≡ 0 → Derives ob (take len after)
shown_derives ob pf before after blank out a len begin s none = s.translated.derived (ap (λ (x : Answer). x.refusal) (sym s.answer_is) ∙ none)

-- What is saved: where the pair is accepted, the buffer's bytes up to the length are a derivation.
module _ (ob pf before after blank out : List ℕ) (r : Result Translation Refusal) (t : Translation) (begin : ℕ) (e : r ≡ Ok t)
    (s : Shown ob pf before after blank out (answer_in r) (length_in r) begin) where
  on_acceptance : Shown ob pf before after blank out (accepted t.nodes) t.length begin
  on_acceptance = subst (λ (x : Result Translation Refusal). Shown ob pf before after blank out (answer_in x) (length_in x) begin) e s

  pub saved_inside : IsPrefixLen t.length after
  saved_inside = on_acceptance.inside

  pub saved_derives : Derives ob (take t.length after)
  saved_derives = shown_derives ob pf before after blank out (accepted t.nodes) t.length begin on_acceptance refl

-- What is written, for a buffer of the program's size: the line is that of the proof check's answer.
pub written_line : (ob pf before after blank out : List ℕ) (a : Answer) (len begin : ℕ) → Shown ob pf before after blank out a len begin
    → length before ≡ buffer_size → take (105 - begin) (drop begin out) ≡ translation_line (proof_answer ob pf) len
written_line ob pf before after blank out a len begin s size =
    let same : translation_answer ob pf (length before) ≡ proof_answer ob pf = ap (translation_answer ob pf) size ∙ room_for_all ob pf in
    line_slice 105 _ blank out begin s.line_is ∙ ap (λ (x : Answer). translation_line x len) same
