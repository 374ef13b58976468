-- What comes before the walk.
use Rattle.std.specs.Prelude.{ℕ, ◌≡◌, refl, List, Bool, true, false}
use Rattle.std.proofs.Common.{sym, ◌∙◌}
use Rattle.std.proofs.lemmas.Bool.{false≢true}
use Rattle.reader.specs.declared.Answer.{Answer}
use Rattle.reader.specs.Words.{word}
use Rattle.reader.specs.Answers.{accepted}
use Rattle.reader.specs.Places.{reading}
use Rattle.derivation_trees.specs.Table.{Table}

-- what comes before the walk is done: the pair is read, or the keys are there
pub record Prepared (ob s : List ℕ) (m : ℕ) (first : Bool) (r : Answer) (before keys : List ℕ) : Type 0 where
  pub answers : first ≡ true → r ≡ reading 2 ob s
  pub same : first ≡ true → keys ≡ before
  pub accepts : first ≡ false → r ≡ accepted 0
  pub table : first ≡ false → Table (word ob s m) keys

pub prepared_read : (ob s : List ℕ) (m : ℕ) (first : Bool) (r : Answer) (keys : List ℕ) → first ≡ true → r ≡ reading 2 ob s → Prepared ob s m first r keys keys
prepared_read ob s m first r keys h e =
    record { answers = λ p. e; same = λ p. refl; accepts = λ p. absurd (false≢true (sym p ∙ h)); table = λ p. absurd (false≢true (sym p ∙ h)) }

pub prepared_keys : (ob s : List ℕ) (m : ℕ) (first : Bool) (before keys : List ℕ) → first ≡ false → Table (word ob s m) keys → Prepared ob s m first (accepted 0) before keys
prepared_keys ob s m first before keys h t =
    record { answers = λ p. absurd (false≢true (sym h ∙ p)); same = λ p. absurd (false≢true (sym h ∙ p)); accepts = λ p. refl; table = λ p. t }
