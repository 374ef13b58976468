-- The walk of the proof check accepts exactly what `Proves` says, with the number of nodes.
use Rattle.std.specs.Prelude.{ℕ, ◌+◌, ◌≡◌, ◌↔◌}
use Rattle.std.proofs.Math.Path.{sym, ap, subst}
use Rattle.std.proofs.Common.{◌∙◌, arith}
use mathlib.Core.List.{List}
use Rattle.reader.specs.declared.Answer.{Answer}
use Rattle.reader.specs.Words.{Reader}
use Rattle.reader.specs.Trees.{Tree}
use Rattle.reader.specs.Answers.{accepted}
use Rattle.reader.specs.Walk.{walk_node}
use Rattle.reader.specs.WalkLaws.{sound}
use Rattle.proof_rules.specs.Check.{node_fault, premise_sequent}
use Rattle.proof_meaning.specs.Proves.{Proves}
use Rattle.proof_meaning.proofs.Accepts.{proves_closed, complete}

-- The walk from node n accepts the sequent Γ and counts k nodes exactly where the node proves the sequent by k nodes.
pub walk_means : (rd : Reader) → rd 0 0 ≡ 1 → (n : ℕ) (Γ : List Tree) (count k : ℕ) →
    (walk_node rd (node_fault rd) (premise_sequent rd) n Γ count ≡ accepted (count + k)) ↔ Proves rd Γ n k
walk_means rd head n Γ count k = (to, λ d. complete rd head d count)
  where
    to : walk_node rd (node_fault rd) (premise_sequent rd) n Γ count ≡ accepted (count + k) → Proves rd Γ n k
    to h =
        let r = sound rd (node_fault rd) (premise_sequent rd) (Proves rd) (proves_closed rd) n Γ count (ap (λ (a : Answer). a.refusal) h) in
        let e : count + r.0 ≡ count + k = ap (λ (a : Answer). a.nodes) (sym r.2 ∙ h) in
        let same : r.0 ≡ k = omega arith in
        subst (λ (j : ℕ). Proves rd Γ n j) same r.1

-- Where it accepts at all, it counts the nodes of that proof.
pub walk_counts : (rd : Reader) (n : ℕ) (Γ : List Tree) (count : ℕ) →
    (walk_node rd (node_fault rd) (premise_sequent rd) n Γ count).refusal ≡ 0 →
    (k : ℕ) × Proves rd Γ n k × (walk_node rd (node_fault rd) (premise_sequent rd) n Γ count ≡ accepted (count + k))
walk_counts rd n Γ count h = sound rd (node_fault rd) (premise_sequent rd) (Proves rd) (proves_closed rd) n Γ count h
