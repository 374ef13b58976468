-- The walk accepts exactly the derivations.
use Rattle.std.specs.Prelude.{ℕ, ◌+◌, ◌≤◌, ◌≡◌, List, length}
use Rattle.reader.specs.declared.Answer.{Answer}
use Rattle.reader.specs.Words.{Reader}
use Rattle.reader.specs.Trees.{Tree}
use Rattle.reader.specs.Answers.{accepted}
use Rattle.reader.specs.Walk.{walk_node}
use Rattle.reader.specs.WalkLaws.{sound}
use Rattle.derivation_rules.specs.Rules.{state_at}
use Rattle.derivation_rules.specs.Check.{node_fault, premise_state}
use Rattle.derivation_meaning.specs.Derives.{Derives}
use Rattle.derivation_meaning.proofs.Plain.{Plain}
use Rattle.derivation_meaning.proofs.Cases.{Claim}
use Rattle.derivation_meaning.proofs.Sound.{closed}
use Rattle.derivation_meaning.proofs.Complete.{derives_goes}

module _ (rd : Reader) where
  abbrev walk : ℕ → List Tree → Tree → ℕ → ℕ → Answer
  walk n Γ P d count = walk_node rd (node_fault rd) (premise_state rd) n (state_at Γ P d) count

  -- an accepting walk is a derivation, and its count that of the derivation's nodes
  pub walk_derives : (n : ℕ) (Γ : List Tree) (P : Tree) (d count : ℕ) → length Γ ≤ 2048 → Plain P → (walk n Γ P d count).refusal ≡ 0 →
      (k : ℕ) × Derives rd Γ P d n k × (walk n Γ P d count ≡ accepted (count + k))
  walk_derives n Γ P d count few plain h =
      let r = sound rd (node_fault rd) (premise_state rd) (Claim rd) (closed rd) n (state_at Γ P d) count h in
      (r.0, r.1 (record { members = few; goal = plain }), r.2)

  -- a derivation is accepted, with its nodes counted; `head` is what the reading of a file has seen: record 0 is the header
  pub derives_walk : (head : rd 0 0 ≡ 1) {Γ : List Tree} {P : Tree} {d n k : ℕ} → Derives rd Γ P d n k → (count : ℕ) →
      walk n Γ P d count ≡ accepted (count + k)
  derives_walk head p = derives_goes rd head p
