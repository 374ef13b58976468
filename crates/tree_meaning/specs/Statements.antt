-- What is proved of the listing, for every two byte lists as obligation and proof: each claim by itself. Their proofs are in `Theorems`.
use Rattle.std.specs.Prelude.{ℕ, ◌≤◌, ◌≡◌, List, [], eqb, length}
use Rattle.reader.specs.Tests.{if_eq}
use Rattle.reader.specs.Kinds.{modes}
use Rattle.reader.specs.Places.{root_of, reading}
use Rattle.reader_laws.specs.File.{beside}
use Rattle.proof_rules.specs.Check.{node_fault, premise_sequent, start_sequent, proof_walk, proof_answer}
use Rattle.tree_rules.specs.Order.{order}
use Rattle.tree_rules.specs.Listing.{entered}
use Rattle.tree_meaning.specs.Walked.{Visit, visit_from, EndsAt}

-- what the proof check's walk enters, from the root on
abbrev pub root_visit : List ℕ → List ℕ → Visit
root_visit ob pf =
    visit_from (beside ob pf) (node_fault (beside ob pf)) (premise_sequent (beside ob pf)) (root_of pf) (start_sequent (beside ob pf)) 0

-- These are the nodes of the walk that `proof_answer` is defined by: all pass where it accepts, and it counts as many.
abbrev pub WalkCounts : Type 0
WalkCounts = (ob pf : List ℕ) →
    (eqb (proof_walk (beside ob pf) (root_of pf)).refusal 0 ≡ (root_visit ob pf).passes)
    × ((proof_walk (beside ob pf) (root_of pf)).nodes ≡ length (root_visit ob pf).nodes)

-- The nodes listed are those that the walk enters, in its order; none where a place before the walk refuses.
abbrev pub EnteredWalk : Type 0
EnteredWalk = (ob pf : List ℕ) → entered ob pf ≡ if_eq (reading modes.proof ob pf).refusal 0 (root_visit ob pf).nodes []

-- They are as many as the answer counts.
abbrev pub EnteredCount : Type 0
EnteredCount = (ob pf : List ℕ) → length (entered ob pf) ≡ (proof_answer ob pf).nodes

-- On acceptance they are all nodes of the tree.
abbrev pub EnteredAll : Type 0
EnteredAll = (ob pf : List ℕ) → (proof_answer ob pf).refusal ≡ 0 → entered ob pf ≡ order (beside ob pf) (root_of pf) 0

-- On a refusal in the walk, the last of them is the record that the answer names.
abbrev pub RefusedLast : Type 0
RefusedLast = (ob pf : List ℕ) → (reading modes.proof ob pf).refusal ≡ 0 → ((proof_answer ob pf).refusal ≡ 0 → ⊥) →
    EndsAt (proof_answer ob pf).at (entered ob pf)

-- No answer of the proof check counts more nodes than the longest proof has records.
abbrev pub FewNodes : Type 0
FewNodes = (ob pf : List ℕ) → (proof_answer ob pf).nodes ≤ 3072
