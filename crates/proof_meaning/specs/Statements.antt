-- What is proved of the proof check, for every two byte lists as obligation and proof: each claim by itself. Their proofs are in `Theorems`.
use Rattle.std.specs.Prelude.{ℕ, ◌≤◌, ◌≡◌, List, ◌↔◌, ◌⊎◌}
use Rattle.reader.specs.declared.Answer.{Answer}
use Rattle.reader.specs.Trees.{¬ᵗ◌}
use Rattle.reader.specs.Answers.{accepted}
use Rattle.reader.specs.Members.{◌▹◌}
use Rattle.reader.specs.Places.{hypotheses, goal, root_of, reading}
use Rattle.reader_laws.specs.File.{alone, beside}
use Rattle.reader_meaning.specs.WellFormed.{WellFormed}
use Rattle.proof_rules.specs.Check.{start_sequent, proof_answer}
use Rattle.proof_meaning.specs.Proves.{Proves}
use Rattle.proof_meaning.specs.TypedTrees.{TypedRecords}
use Rattle.proof_meaning.specs.LL.{LL}
use Rattle.proof_meaning.specs.Refused.{Refused}

-- The root of the proof proves the start, that is the hypotheses and the negated goal, by k nodes.
abbrev pub RootProves : List ℕ → List ℕ → ℕ → Type 0
RootProves ob pf k = Proves (beside ob pf) (start_sequent (beside ob pf)) (root_of pf) k

-- The answer is 0, 0, 0, k exactly where the pair is well formed and the root of the proof proves the start by k nodes.
abbrev pub ProofMeans : Type 0
ProofMeans = (ob pf : List ℕ) (k : ℕ) → (proof_answer ob pf ≡ accepted k) ↔ (WellFormed ob pf × RootProves ob pf k)

-- An answer with refusal 0 is 0, 0, 0 and some k.
abbrev pub ProofAccepted : Type 0
ProofAccepted = (ob pf : List ℕ) → (proof_answer ob pf).refusal ≡ 0 → (k : ℕ) × (proof_answer ob pf ≡ accepted k)

-- In a well-formed pair each record that is a type, a term, a formula or a polymorphic formula is well typed.
abbrev pub ProofTyped : Type 0
ProofTyped = (ob pf : List ℕ) → WellFormed ob pf → TypedRecords (beside ob pf)

-- Where the answer is 0, 0, 0, k, the calculus of figure 3, over the symbols of obligation and proof, derives ⊥ from the obligation's hypotheses and its
-- negated goal. By `LL` the members of this sequent, and of each sequent of the derivation, are closed well-typed formulas or polymorphic formulas.
abbrev pub ProofLL : Type 0
ProofLL = (ob pf : List ℕ) (k : ℕ) → proof_answer ob pf ≡ accepted k → LL (beside ob pf) (hypotheses (alone ob) ▹ ¬ᵗ (goal (alone ob)))

-- The places before the walk, refusals 1 to 12, refuse nothing exactly where the pair is well formed.
abbrev pub ProofRead : Type 0
ProofRead = (ob pf : List ℕ) → (reading 1 ob pf ≡ accepted 0) ↔ WellFormed ob pf

-- The answer is a given refusal exactly where the pair is refused so: the condition of its place holds, and that of no place before it.
abbrev pub ProofRefused : Type 0
ProofRefused = (ob pf : List ℕ) (a : Answer) → 1 ≤ a.refusal → (proof_answer ob pf ≡ a) ↔ Refused ob pf a

-- Every pair is well formed with a root that proves the start, or it is refused.
abbrev pub ProofAcceptedOrRefused : Type 0
ProofAcceptedOrRefused =
    (ob pf : List ℕ) → ((k : ℕ) × (WellFormed ob pf × RootProves ob pf k)) ⊎ ((a : Answer) × Refused ob pf a)
