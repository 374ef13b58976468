-- Every answer of the two checks and the translation is bounded, whatever the files and the buffer.
use Rattle.std.specs.Prelude.{ℕ, ◌≤◌, ◌≡◌, refl, List, Bool, true, false, eqb, ltb}
use Rattle.std.proofs.Common.{arith}
use Rattle.reader.specs.declared.Answer.{Answer}
use Rattle.reader.specs.Words.{Reader}
use Rattle.reader.specs.Tests.{every, if_eq, if_lt}
use Rattle.reader.specs.Kinds.{is_rule}
use Rattle.reader.specs.Trees.{Tree}
use Rattle.reader.specs.Chains.{premises}
use Rattle.reader.specs.Answers.{answer}
use Rattle.reader.specs.Places.{most_records, root_of, count_of, reading}
use Rattle.reader.specs.Members.{premises_fit}
use Rattle.reader.specs.Walk.{and_then, walk_node}
use Rattle.reader_laws.specs.Scan.{both_parts, demand_parts}
use Rattle.reader_laws.specs.File.{beside, ReadObligation, ReadSecond, reading_parts}
use Rattle.reader_laws.specs.File.{length_parts, header_parts, records_few}
use Rattle.reader_laws.specs.Pair.{root_range}
use Rattle.reader_laws.specs.Under.{root_under}
use Rattle.reader_laws.specs.Entered.{node_count}
use Rattle.proof_rules.specs.Check as proof
use Rattle.proof_rules.specs.Check.{proof_walk, proof_answer, start_sequent, premise_sequent}
use Rattle.derivation_rules.specs.Rules.{State}
use Rattle.derivation_rules.specs.Check as derivation
use Rattle.derivation_rules.specs.Check.{derivation_walk, derivation_answer, start_state, premise_state}
use Rattle.translation_rules.specs.Check.{room_for, translation_answer}
use Rattle.favashears_bounds.specs.Bounds.{Bounded}
use Rattle.favashears_bounds.specs.ReadingBounds.{demand_most, or_bounded, reading_bounded}
use Rattle.favashears_bounds.specs.WalkBounds.{node_within}

-- A walk from the root of a second file, of any calculus whose nodes that pass their tests have rule nodes for premises.
module _ {S : Type 0} (mode : ℕ) (limit : most_records mode ≤ 200001) (ob s : List ℕ) (fault : S → ℕ → ℕ) (next : S → ℕ → ℕ → S)
    (most : (st : S) (n : ℕ) → fault st n ≤ 19)
    (rules : (st : S) (n : ℕ) → fault st n ≡ 0 → every (λ x. is_rule mode (beside ob s x 0)) (premises (beside ob s) n) ≡ true)
    (r : ReadObligation ob) (t : ReadSecond mode ob s) (st : S) where
  few : (count_of ob ≤ 1023) × (count_of s ≤ 200000)
  unfolding most_records if_eq
  few =
      let own = (length_parts 0 ob r.length_of).2 in
      let count = (header_parts ob r.header).1 in
      (omega (arith, own, count), omega (arith, records_few mode ob s t, limit))

  walk_bounded : Bounded (walk_node (beside ob s) fault next (root_of s) st 0)
  walk_bounded =
      let w = node_within (beside ob s) fault next most (root_of s) st 0 in
      let range = root_range mode ob s r t in
      let nodes = node_count mode (beside ob s) fault next rules (root_of s) st 0 t.root in
      record {
        refusal_at_most = w.refusal_at_most;
        file_at_most = w.file_at_most;
        record_below = omega (arith, w.record_at_most, range.1, few.0, few.1);
        nodes_below = omega (arith, nodes, root_under mode ob s r t, few.1);
      }

-- Proofs.
module _ (rd : Reader) where
  proof_most : (Γ : List Tree) (n : ℕ) → proof.node_fault rd Γ n ≤ 19
  unfolding proof.node_fault proof.row_fault
  proof_most Γ n =
      demand_most 19 _ 13 _ (omega arith)
      (demand_most 19 _ 13 _ (omega arith)
      (demand_most 19 _ 14 _ (omega arith)
      (demand_most 19 _ 15 _ (omega arith) (demand_most 19 _ 16 _ (omega arith) (demand_most 19 _ 17 0 (omega arith) (omega arith))))))

  proof_premises : (Γ : List Tree) (n : ℕ) → proof.node_fault rd Γ n ≡ 0 → every (λ x. is_rule 1 (rd x 0)) (premises rd n) ≡ true
  unfolding proof.node_fault proof.row_fault premises_fit
  proof_premises Γ n h = (both_parts _ _ (demand_parts _ 13 _ (demand_parts _ 13 _ h refl).1 refl).0).1

pub proof_bounded : (ob pf : List ℕ) → Bounded (proof_answer ob pf)
unfolding proof_answer proof_walk most_records if_eq
proof_bounded ob pf =
    or_bounded (reading 1 ob pf) _ (reading_bounded 1 (omega arith) ob pf)
    (λ h. let p = reading_parts 1 ob pf h in
    walk_bounded 1 (omega arith) ob pf (proof.node_fault (beside ob pf)) (premise_sequent (beside ob pf)) (proof_most (beside ob pf))
    (proof_premises (beside ob pf)) p.0 p.1 (start_sequent (beside ob pf)))

-- Derivations.
module _ (rd : Reader) where
  derivation_most : (st : State) (n : ℕ) → derivation.node_fault rd st n ≤ 19
  unfolding derivation.node_fault derivation.row_fault
  derivation_most st n =
      demand_most 19 _ 13 _ (omega arith)
      (demand_most 19 _ 13 _ (omega arith)
      (demand_most 19 _ 13 _ (omega arith)
      (demand_most 19 _ 14 _ (omega arith)
      (demand_most 19 _ 14 _ (omega arith)
      (demand_most 19 _ 15 _ (omega arith)
      (demand_most 19 _ 16 _ (omega arith) (demand_most 19 _ 17 _ (omega arith) (demand_most 19 _ 18 0 (omega arith) (omega arith)))))))))

  derivation_premises : (st : State) (n : ℕ) → derivation.node_fault rd st n ≡ 0 → every (λ x. is_rule 2 (rd x 0)) (premises rd n) ≡ true
  unfolding derivation.node_fault derivation.row_fault premises_fit
  derivation_premises st n h = (both_parts _ _ (demand_parts _ 13 _ (demand_parts _ 13 _ (demand_parts _ 13 _ h refl).1 refl).1 refl).0).1

pub derivation_bounded : (ob dv : List ℕ) → Bounded (derivation_answer ob dv)
unfolding derivation_answer derivation_walk most_records if_eq
derivation_bounded ob dv =
    or_bounded (reading 2 ob dv) _ (reading_bounded 2 (omega arith) ob dv)
    (λ h. let p = reading_parts 2 ob dv h in
    walk_bounded 2 (omega arith) ob dv (derivation.node_fault (beside ob dv)) (premise_state (beside ob dv)) (derivation_most (beside ob dv))
    (derivation_premises (beside ob dv)) p.0 p.1 (start_state (beside ob dv)))

-- The translation.
pub translation_bounded : (ob pf : List ℕ) (size : ℕ) → Bounded (translation_answer ob pf size)
unfolding translation_answer and_then if_lt
translation_bounded ob pf size = go (eqb (proof_answer ob pf).refusal 0) (ltb size (room_for (count_of pf)))
  where
    go : (a b : Bool) →
        Bounded (elim a as (λ x. Answer) [ true ↦ elim b as (λ x. Answer) [ true ↦ answer 19 2 0 (proof_answer ob pf).nodes | false ↦ proof_answer ob pf ] | false ↦ proof_answer ob pf ])
    go true true = record {
      refusal_at_most = omega arith;
      file_at_most = omega arith;
      record_below = omega arith;
      nodes_below = (proof_bounded ob pf).nodes_below;
    }
    go true false = proof_bounded ob pf
    go false b = proof_bounded ob pf

-- Reading.
pub reading_proof_bounded : (ob pf : List ℕ) → Bounded (reading 1 ob pf)
unfolding most_records if_eq
reading_proof_bounded ob pf = reading_bounded 1 (omega arith) ob pf

pub reading_derivation_bounded : (ob dv : List ℕ) → Bounded (reading 2 ob dv)
unfolding most_records if_eq
reading_derivation_bounded ob dv = reading_bounded 2 (omega arith) ob dv
