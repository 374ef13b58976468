-- The proof check as a calculus of `reader_meaning`, and what its answer's two halves, the reading of the files and the walk, give.
use Rattle.std.specs.Prelude.{ℕ, ◌≤◌, ◌≡◌, refl, List, ◌↔◌, ◌⊎◌}
use Rattle.std.proofs.Common.{arith}
use Rattle.reader.specs.declared.Answer.{Answer}
use Rattle.reader.specs.Words.{Reader}
use Rattle.reader.specs.Tests.{every}
use Rattle.reader.specs.Trees.{Tree}
use Rattle.reader.specs.Answers.{accepted}
use Rattle.reader.specs.Places.{root_of, reading}
use Rattle.reader_laws.specs.File.{beside}
use Rattle.reader_meaning.specs.WellFormed.{WellFormed}
use Rattle.reader_meaning.proofs.StopLaws.{refusal_of, Calculus}
use Rattle.reader_meaning.proofs.AnswerLaws.{halves, some_count, accepted_in, accepted_out, accepted_or_refused, refused_where}
use Rattle.proof_rules.specs.Check.{row_fault, node_fault, premise_sequent, start_sequent, proof_walk, proof_answer}
use Rattle.proof_meaning.specs.Proves.{Proves}
use Rattle.proof_meaning.specs.Refused.{node_tests, Refused}
use Rattle.proof_meaning.specs.Statements.{RootProves}
use Rattle.proof_meaning.proofs.Rows.{passed_in}
use Rattle.proof_meaning.proofs.WalkMeans.{walk_means, walk_counts}

-- nothing is asked of a sequent
abbrev pub Any : List Tree → Type 0
Any Γ = Γ ≡ Γ

pub proof_calculus : (rd : Reader) → Calculus 1 rd (node_fault rd) (node_tests rd) (premise_sequent rd) (Proves rd) Any
unfolding node_fault row_fault refusal_of every
proof_calculus rd = record {
  same = λ Γ n. refl;
  numbered = λ Γ n. refl;
  rules = λ Γ n h. (passed_in rd Γ n h).rules;
  stays = λ Γ n b w h l. refl;
  walked = λ Γ n count w h. walk_counts rd n Γ count h;
  walks = λ head Γ n k count p. (walk_means rd head n Γ count k).1 p;
}

-- where the answer has no refusal, both the reading and the walk accept
pub read_and_walked : (ob pf : List ℕ) → (proof_answer ob pf).refusal ≡ 0 →
    (reading 1 ob pf ≡ accepted 0) × ((proof_walk (beside ob pf) (root_of pf)).refusal ≡ 0)
unfolding proof_answer
read_and_walked ob pf h = halves 1 ob pf (proof_walk (beside ob pf) (root_of pf)) h

-- The laws of answers of `reader_meaning`, for the proof check.
module _ (ob pf : List ℕ) where
  abbrev rd : Reader
  rd = beside ob pf

  -- Acceptance gives a well-formed pair whose root proves the start, and k is the number of its nodes; and the other way round.
  pub accepted_means : (k : ℕ) → proof_answer ob pf ≡ accepted k → WellFormed ob pf × RootProves ob pf k
  unfolding proof_answer proof_walk
  accepted_means =
      accepted_in 1 (omega arith) ob pf (node_fault rd) (node_tests rd) (premise_sequent rd) (Proves rd) Any (proof_calculus rd) (start_sequent rd) (λ w. refl)

  pub means_accepted : (k : ℕ) → WellFormed ob pf → RootProves ob pf k → proof_answer ob pf ≡ accepted k
  unfolding proof_answer proof_walk
  means_accepted =
      accepted_out 1 (omega arith) ob pf (node_fault rd) (node_tests rd) (premise_sequent rd) (Proves rd) Any (proof_calculus rd) (start_sequent rd) (λ w. refl)

  pub accepted_some : (proof_answer ob pf).refusal ≡ 0 → (k : ℕ) × (proof_answer ob pf ≡ accepted k)
  unfolding proof_answer proof_walk
  accepted_some =
      some_count 1 (omega arith) ob pf (node_fault rd) (node_tests rd) (premise_sequent rd) (Proves rd) Any (proof_calculus rd) (start_sequent rd) (λ w. refl)

  -- Every pair is accepted or refused, and what is refused so is answered so.
  pub accepted_refused : ((k : ℕ) × (WellFormed ob pf × RootProves ob pf k)) ⊎ ((a : Answer) × Refused ob pf a)
  accepted_refused =
      accepted_or_refused 1 (omega arith) ob pf (node_fault rd) (node_tests rd) (premise_sequent rd) (Proves rd) Any (proof_calculus rd) (start_sequent rd)
      (λ w. refl)

  pub refused_means : (a : Answer) → 1 ≤ a.refusal → (proof_answer ob pf ≡ a) ↔ Refused ob pf a
  unfolding proof_answer proof_walk
  refused_means =
      refused_where 1 (omega arith) ob pf (node_fault rd) (node_tests rd) (premise_sequent rd) (Proves rd) Any (proof_calculus rd) (start_sequent rd) (λ w. refl)
