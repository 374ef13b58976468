-- What is proved of the translation, for every two byte lists as obligation and proof, and every buffer. The proofs are in `Theorems`.
use Rattle.std.specs.Prelude.{ℕ, ◌+◌, ◌*◌, ◌≤◌, ◌≡◌, List, length, take}
use Rattle.reader.specs.declared.Answer.{Answer}
use Rattle.reader.specs.Answers.{accepted}
use Rattle.reader.specs.Places.{count_of}
use Rattle.reader_laws.specs.File.{beside}
use Rattle.proof_rules.specs.Check.{proof_answer}
use Rattle.derivation_rules.specs.Check.{derivation_answer}
use Rattle.derivation_meaning.specs.Derivable.{DerivedByB}
use Rattle.translation_rules.specs.Output.{written}
use Rattle.translation_rules.specs.Bytes.{derivation_bytes}
use Rattle.translation_rules.specs.Check.{room_for}
use Rattle.translation_meaning.specs.Translates.{Translates}

-- Where the proof check accepts, the derivation check accepts the bytes of the translation beside the same obligation, with a count of its own.
abbrev pub TranslationAccepted : Type 0
TranslationAccepted = (ob pf : List ℕ) (k : ℕ) → proof_answer ob pf ≡ accepted k → (j : ℕ) × (derivation_answer ob (derivation_bytes ob pf) ≡ accepted j)

-- So the obligation's goal is derived by the B rules from the obligation's hypotheses, types removed, over the symbols of obligation and derivation.
abbrev pub TranslationB : Type 0
TranslationB = (ob pf : List ℕ) (k : ℕ) → proof_answer ob pf ≡ accepted k → DerivedByB ob (derivation_bytes ob pf)

-- What demand 3 says of a pair with k nodes, the buffer's bytes afterwards, the answer and the length.
pub record Translated (ob after : List ℕ) (a : Answer) (len k : ℕ) : Type 0 where
  -- "the translation answers the same four numbers and a length"
  pub same : a ≡ accepted k
  -- "The derivation check, lent the obligation's same bytes and the buffer's bytes up to that length, then answers 0, 0, 0 and a count of its own."
  pub count : ℕ
  pub checked : derivation_answer ob (take len after) ≡ accepted count
  -- the goal is "derived by the B rules"
  pub derived_by_b : DerivedByB ob (take len after)

-- "Demand 3 covers every pair of byte areas as obligation and proof, and every output buffer. Where the proof check answers 0, 0, 0 and a count, and the buffer
-- isn't under the size at 19", what the program's contract, `Translates`, lets it answer and leave in the buffer is as demand 3 says.
abbrev pub TranslationMeans : Type 0
TranslationMeans =
    (ob pf before after : List ℕ) (a : Answer) (len k : ℕ) → Translates ob pf before after a len →
    proof_answer ob pf ≡ accepted k → room_for (count_of pf) ≤ length before → Translated ob after a len k

-- The derivation is its header and the records that `written` counts, 16 bytes each.
abbrev pub TranslationLengthIs : Type 0
TranslationLengthIs =
    (ob pf : List ℕ) (k : ℕ) → proof_answer ob pf ≡ accepted k →
    length (derivation_bytes ob pf) ≡ 16 * (1 + written (beside ob pf) (count_of ob) (count_of pf))

-- The derivation has at most 21 records for each rule node walked, beside the proof's own and five for the start.
abbrev pub TranslationLength : Type 0
TranslationLength =
    (ob pf : List ℕ) (k : ℕ) → proof_answer ob pf ≡ accepted k → length (derivation_bytes ob pf) ≤ 16 * (1 + count_of pf + 21 * k + 5)
