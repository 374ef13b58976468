-- What is proved of the derivation check, for any two byte lists as obligation and derivation; the proofs are in Theorems.
use Rattle.std.specs.Prelude.{ℕ, ◌≤◌, ◌≡◌, List, ◌↔◌, ◌⊎◌}
use Rattle.reader.specs.declared.Answer.{Answer}
use Rattle.reader.specs.Answers.{accepted}
use Rattle.reader.specs.Places.{root_of, reading}
use Rattle.reader_laws.specs.File.{beside}
use Rattle.reader_meaning.specs.WellFormed.{WellFormedDerivation}
use Rattle.derivation_rules.specs.Check.{bare_hypotheses, bare_goal, derivation_answer}
use Rattle.derivation_meaning.specs.Derives.{Derives}
use Rattle.derivation_meaning.specs.Derivable.{DerivedByB}
use Rattle.derivation_meaning.specs.Refused.{RefusedDerivation}

-- The root node of the derivation, at depth 1, derives the start, the goal from the hypotheses, types removed, with k nodes.
abbrev pub RootDerives : List ℕ → List ℕ → ℕ → Type 0
RootDerives ob dv k = Derives (beside ob dv) (bare_hypotheses (beside ob dv)) (bare_goal (beside ob dv)) 1 (root_of dv) k

-- The answer is 0, 0, 0, k exactly where the pair is well formed and the root of the derivation derives the start with k nodes.
abbrev pub DerivationMeans : Type 0
DerivationMeans = (ob dv : List ℕ) (k : ℕ) → (derivation_answer ob dv ≡ accepted k) ↔ (WellFormedDerivation ob dv × RootDerives ob dv k)

-- An answer whose refusal is 0 is 0, 0, 0 and a count of nodes.
abbrev pub DerivationAccepted : Type 0
DerivationAccepted = (ob dv : List ℕ) → (derivation_answer ob dv).refusal ≡ 0 → (k : ℕ) × (derivation_answer ob dv ≡ accepted k)

-- Where the check accepts, the obligation's own goal is derived by the B rules from the obligation's own hypotheses, types removed, over the
-- symbols of obligation and derivation.
abbrev pub DerivationB : Type 0
DerivationB = (ob dv : List ℕ) (k : ℕ) → derivation_answer ob dv ≡ accepted k → DerivedByB ob dv

-- The places before the walk, refusals 1 to 12, refuse nothing exactly where the pair is well formed.
abbrev pub DerivationRead : Type 0
DerivationRead = (ob dv : List ℕ) → (reading 2 ob dv ≡ accepted 0) ↔ WellFormedDerivation ob dv

-- The answer is a given refusal exactly where the pair is refused so: the condition of its place holds, and that of no place before it.
abbrev pub DerivationRefused : Type 0
DerivationRefused = (ob dv : List ℕ) (a : Answer) → 1 ≤ a.refusal → (derivation_answer ob dv ≡ a) ↔ RefusedDerivation ob dv a

-- Every pair is well formed with a root that derives the start, or it is refused.
abbrev pub DerivationAcceptedOrRefused : Type 0
DerivationAcceptedOrRefused =
    (ob dv : List ℕ) → ((k : ℕ) × (WellFormedDerivation ob dv × RootDerives ob dv k)) ⊎ ((a : Answer) × RefusedDerivation ob dv a)
