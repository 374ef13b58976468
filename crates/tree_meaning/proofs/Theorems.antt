-- The proofs of `Statements`.
use Rattle.std.specs.Prelude.{ℕ, ◌≤◌, ◌≡◌, refl, Bool, true, false, eqb, length}
use Rattle.std.proofs.Common.{sym, ap, ◌∙◌, arith, eqb-true, eq-eqb, ne_eqb}
use mathlib.Core.List.{List, [], ◌++◌, flat_map}
use Rattle.reader.specs.declared.Answer.{Answer}
use Rattle.reader.specs.Tests.{every, if_eq}
use Rattle.reader.specs.Kinds.{is_rule}
use Rattle.reader.specs.Trees.{Tree}
use Rattle.reader.specs.Chains.{premises}
use Rattle.reader.specs.Answers.{or_answer}
use Rattle.reader.specs.Places.{most_records, count_of, root_of, reading}
use Rattle.reader_laws.specs.Scan.{or_answer_parts, or_answer_join}
use Rattle.reader_laws.specs.File.{beside, reading_parts, records_few}
use Rattle.reader_laws.specs.Pair.{rule_range}
use Rattle.reader_laws.specs.Under.{root_under}
use Rattle.reader_laws.specs.Entered.{node_count}
use Rattle.proof_rules.specs.Check.{node_fault, premise_sequent, start_sequent, proof_walk, proof_answer}
use Rattle.proof_meaning.proofs.Rows.{passed_in}
use Rattle.tree_rules.specs.Order.{Node, order}
use Rattle.tree_rules.specs.Listing.{heading, node_lines, entered, ending, listing}
use Rattle.tree_meaning.specs.Walked.{EndsAt}
use Rattle.tree_meaning.proofs.Faulty.{walk_faulty}
use Rattle.tree_meaning.proofs.WalkedLaws.{Agrees, all_entered, first_entered, walk_entered}
use Rattle.tree_meaning.proofs.BeforeWalk.{reading_none}
use Rattle.tree_meaning.specs.Statements.{root_visit, WalkCounts, EnteredWalk, EnteredCount, EnteredAll, RefusedLast, FewNodes}

module _ (ob pf : List ℕ) where
  -- the walk from the root
  root_agrees : Agrees (proof_walk (beside ob pf) (root_of pf)) 0 (root_visit ob pf) (order (beside ob pf) (root_of pf) 0)
  unfolding proof_walk
  root_agrees = walk_entered (beside ob pf) (node_fault (beside ob pf)) (premise_sequent (beside ob pf)) (root_of pf) (start_sequent (beside ob pf)) 0 0

  -- the answer is the walk's where the reading refuses nothing, and else the reading's
  answer_walk : (reading 1 ob pf).refusal ≡ 0 → proof_answer ob pf ≡ proof_walk (beside ob pf) (root_of pf)
  unfolding proof_answer
  answer_walk h = or_answer_join (reading 1 ob pf) _ h

  answer_none : eqb (reading 1 ob pf).refusal 0 ≡ false → (proof_answer ob pf).nodes ≡ 0
  unfolding proof_answer or_answer
  answer_none h = simp (proof_answer, or_answer, h) (reading_none 1 ob pf)

pub walk_counts : WalkCounts
walk_counts ob pf = let w = root_agrees ob pf in (w.accepts, omega (arith, w.counts))

pub entered_walk : EnteredWalk
unfolding entered if_eq
entered_walk ob pf = go (eqb (reading 1 ob pf).refusal 0) refl
  where
    go : (t : Bool) → eqb (reading 1 ob pf).refusal 0 ≡ t →
        entered ob pf ≡ elim t as (λ x. List Node) [ true ↦ (root_visit ob pf).nodes | false ↦ [] ]
    go true e = rw (answer_walk ob pf (eqb-true _ 0 e)) (first_entered (root_agrees ob pf))
    go false e = rw (answer_none ob pf e)

pub entered_count : EnteredCount
unfolding if_eq
entered_count ob pf = go (eqb (reading 1 ob pf).refusal 0) refl
  where
    go : (t : Bool) → eqb (reading 1 ob pf).refusal 0 ≡ t → length (entered ob pf) ≡ (proof_answer ob pf).nodes
    go true e =
        let same : entered ob pf ≡ (root_visit ob pf).nodes = entered_walk ob pf ∙ simp (if_eq, e) in
        ap length same ∙ sym (walk_counts ob pf).1 ∙ ap (λ (a : Answer). a.nodes) (sym (answer_walk ob pf (eqb-true _ 0 e)))
    go false e =
        let same : entered ob pf ≡ [] = entered_walk ob pf ∙ simp (if_eq, e) in
        ap length same ∙ sym (answer_none ob pf e)

pub entered_all : EnteredAll
unfolding proof_answer if_eq
entered_all ob pf h =
    let both = or_answer_parts (reading 1 ob pf) (proof_walk (beside ob pf) (root_of pf)) h in
    let passes = sym (walk_counts ob pf).0 ∙ eq-eqb _ 0 both.1 in
    entered_walk ob pf ∙ simp (if_eq, eq-eqb _ 0 both.0) (sym (all_entered (root_agrees ob pf) passes))

-- Files that pass the reading.
module _ (ob pf : List ℕ) (h : (reading 1 ob pf).refusal ≡ 0) where
  -- a node without a fault has rule nodes for premises
  rules : (Γ : List Tree) (n : ℕ) → node_fault (beside ob pf) Γ n ≡ 0 → every (λ x. is_rule 1 (beside ob pf x 0)) (premises (beside ob pf) n) ≡ true
  rules Γ n e = (passed_in (beside ob pf) Γ n e).rules

  header_no_rule : is_rule 1 (beside ob pf 0 0) ≡ false
  header_no_rule = go (is_rule 1 (beside ob pf 0 0)) refl
    where
      go : (t : Bool) → is_rule 1 (beside ob pf 0 0) ≡ t → t ≡ false
      go true e = let read = reading_parts 1 ob pf h in absurd (omega (arith, (rule_range 1 ob pf read.0 read.1 0 e).0))
      go false e = refl

  walk_last : (root_visit ob pf).passes ≡ false → EndsAt (proof_walk (beside ob pf) (root_of pf)).at (root_visit ob pf).nodes
  unfolding proof_walk
  walk_last fails =
      walk_faulty 1 (beside ob pf) (node_fault (beside ob pf)) (premise_sequent (beside ob pf)) rules header_no_rule (root_of pf) (start_sequent (beside ob pf)) 0 0
      (reading_parts 1 ob pf h).1.root fails

  -- the walk enters no more nodes than the proof has records
  few_records : count_of pf ≤ 3072
  unfolding most_records if_eq
  few_records = omega (arith, records_few 1 ob pf (reading_parts 1 ob pf h).1)

  walk_few : (proof_walk (beside ob pf) (root_of pf)).nodes ≤ count_of pf
  unfolding proof_walk
  walk_few =
      let read = reading_parts 1 ob pf h in
      let count = node_count 1 (beside ob pf) (node_fault (beside ob pf)) (premise_sequent (beside ob pf)) rules
      (root_of pf) (start_sequent (beside ob pf)) 0 read.1.root in
      omega (arith, root_under 1 ob pf read.0 read.1)

pub refused_last : RefusedLast
unfolding if_eq
refused_last ob pf h refuses =
    let walk = answer_walk ob pf h in
    let fails : (root_visit ob pf).passes ≡ false =
    sym (walk_counts ob pf).0 ∙ ne_eqb _ 0 (λ e. refuses (ap (λ (a : Answer). a.refusal) walk ∙ e)) in
    let same : entered ob pf ≡ (root_visit ob pf).nodes = entered_walk ob pf ∙ simp (if_eq, eq-eqb _ 0 h) in
    rw (same, walk) (walk_last ob pf h fails)

pub few_nodes : FewNodes
few_nodes ob pf = go (eqb (reading 1 ob pf).refusal 0) refl
  where
    go : (t : Bool) → eqb (reading 1 ob pf).refusal 0 ≡ t → (proof_answer ob pf).nodes ≤ 3072
    go true e =
        let h : (reading 1 ob pf).refusal ≡ 0 = eqb-true _ 0 e in
        omega (arith, walk_few ob pf h, few_records ob pf h, ap (λ (a : Answer). a.nodes) (answer_walk ob pf h))
    go false e = omega (arith, answer_none ob pf e)

-- a listing without nodes
pub unwalked : (ob pf : List ℕ) (a : Answer) → proof_answer ob pf ≡ a → a.nodes ≡ 0 → listing ob pf ≡ heading ++ ending a
unfolding listing entered node_lines flat_map
unwalked ob pf a e none = rw (e, none)
