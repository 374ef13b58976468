-- The four numbers come back from what an entry answers, whatever the files and the buffer.
use Rattle.std.specs.Prelude.{ℕ, ◌≡◌, List, length}
use Rattle.std.proofs.Common.{ap, ◌∙◌}
use Rattle.reader.specs.declared.Answer.{Answer}
use Rattle.reader.specs.Places.{reading}
use Rattle.proof_rules.specs.Check.{proof_answer}
use Rattle.derivation_rules.specs.Check.{derivation_answer}
use Rattle.translation_rules.specs.Check.{translation_answer}
use Rattle.translation_meaning.specs.Translates.{Translates}
use Rattle.favashears_bounds.specs.AnswerBounds.{proof_bounded, derivation_bounded, reading_proof_bounded, reading_derivation_bounded, translation_bounded}
use Rattle.favashears_pack.specs.Pack.{pack, Unpacks}
use Rattle.favashears_pack.proofs.PackLaws.{unpacks}

-- The ways out of the entries, from the answer that the function called gave.
module _ (ob s : List ℕ) (a : Answer) (n : ℕ) (e : n ≡ pack a) where
  pub proof_unpacks : a ≡ proof_answer ob s → Unpacks n (proof_answer ob s)
  proof_unpacks h = unpacks (proof_answer ob s) (proof_bounded ob s) n (e ∙ ap pack h)

  pub derivation_unpacks : a ≡ derivation_answer ob s → Unpacks n (derivation_answer ob s)
  derivation_unpacks h = unpacks (derivation_answer ob s) (derivation_bounded ob s) n (e ∙ ap pack h)

  pub reading_proof_unpacks : a ≡ reading 1 ob s → Unpacks n (reading 1 ob s)
  reading_proof_unpacks h = unpacks (reading 1 ob s) (reading_proof_bounded ob s) n (e ∙ ap pack h)

  pub reading_derivation_unpacks : a ≡ reading 2 ob s → Unpacks n (reading 2 ob s)
  reading_derivation_unpacks h = unpacks (reading 2 ob s) (reading_derivation_bounded ob s) n (e ∙ ap pack h)

  -- the translation's contract, at the definition's answer
  pub translation_unpacks : (before after : List ℕ) (x : Answer) (len m : ℕ) → a ≡ x → m ≡ len → Translates ob s before after x len →
      Unpacks n (translation_answer ob s (length before)) × Translates ob s before after (translation_answer ob s (length before)) m
  translation_unpacks before after x len m h k t = (
    unpacks (translation_answer ob s (length before)) (translation_bounded ob s (length before)) n (e ∙ ap pack (h ∙ t.answers)),
    rw (k, ← t.answers) t,
  )
