-- What the program prints of the bytes that it reads is the listing of the whole files: one byte more is read of each than an accepted one has.
use Rattle.std.specs.Prelude.{ℕ, ◌<◌, ◌≡◌, List, ◌++◌, length, take}
use Rattle.std.proofs.Math.Path.{refl}
use Rattle.std.proofs.Common.{◌∙◌}
use Rattle.reader.specs.Tests.{if_eq}
use Rattle.reader.specs.Words.{word}
use Rattle.reader.specs.Answers.{answer, or_answer}
use Rattle.reader.specs.Places.{most_records, count_of, root_of, obligation_reading}
use Rattle.proof_rules.specs.Check.{proof_walk, proof_answer}
use Rattle.programs.specs.Enough.{most_bytes, cut, obligation_refused, second_refused}
use Rattle.programs_limits.specs.Limits.{obligation_read, proof_read}
use Rattle.tree_rules.specs.Listing.{heading, ending, listing}
use Rattle.tree_meaning.proofs.BeforeWalk.{or_none, obligation_none}
use Rattle.tree_meaning.proofs.Theorems.{unwalked}

-- a listing of a file that is too long has no nodes
module _ (s ob : List ℕ) (long : most_bytes 0 < length ob) where
  long_obligation : listing ob s ≡ heading ++ ending (answer 1 1 0 0)
  unfolding proof_answer
  long_obligation =
      unwalked ob s (answer 1 1 0 0)
      (obligation_refused 1 (λ ob pf. proof_walk (word ob pf (count_of ob)) (root_of pf)) s ob long) refl

module _ (ob s : List ℕ) (long : most_bytes 1 < length s) where
  long_proof : listing ob s ≡ heading ++ ending (or_answer (obligation_reading ob) (answer 1 2 0 0))
  unfolding proof_answer
  long_proof =
      unwalked ob s (or_answer (obligation_reading ob) (answer 1 2 0 0))
      (second_refused 1 (λ ob pf. proof_walk (word ob pf (count_of ob)) (root_of pf)) ob s long)
      (or_none (obligation_reading ob) (answer 1 2 0 0) (obligation_none ob) refl)

-- So the listing is that of the whole files
pub listing_enough : (ob pf : List ℕ) → listing (take obligation_read ob) (take proof_read pf) ≡ listing ob pf
unfolding most_records if_eq
listing_enough ob pf =
    cut (most_bytes 0) (λ x. listing x (take proof_read pf)) _ (long_obligation (take proof_read pf)) ob
    ∙ cut (most_bytes 1) (λ x. listing ob x) _ (long_proof ob) pf
