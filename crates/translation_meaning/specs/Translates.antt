-- What the translation does to a lent buffer, as its contract says it.
use Rattle.std.specs.Prelude.{ℕ, ◌≤◌, ◌≡◌, List, length, take, drop}
use Rattle.reader.specs.declared.Answer.{Answer}
use Rattle.reader.specs.Answers.{accepted}
use Rattle.derivation_rules.specs.Check.{derivation_answer}
use Rattle.translation_rules.specs.Check.{translation_answer}

-- The translation of a pair into a buffer that held `before` answers a and a length, and leaves `after` there.
pub record Translates (ob pf before after : List ℕ) (a : Answer) (len : ℕ) : Type 0 where
  -- the four numbers are the definition's
  pub answers : a ≡ translation_answer ob pf (length before)
  -- "A refusal leaves every buffer unchanged", and the length is "0 on refusal"
  pub refused : (a.refusal ≡ 0 → ⊥) → (len ≡ 0) × (after ≡ before)
  -- the length is at most the buffer's, and the translation "leaves bytes past that length unchanged"
  pub within : len ≤ length before
  pub past : drop len after ≡ drop len before
  -- "The derivation check, lent the obligation's same bytes and the buffer's bytes up to that length, then answers 0, 0, 0 and a count of its own."
  pub derived : a.refusal ≡ 0 → (j : ℕ) × (derivation_answer ob (take len after) ≡ accepted j)
