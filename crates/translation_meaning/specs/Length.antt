-- How long the derivation is, by the count that the proof check answers: the walk of an accepted proof enters each rule node once.
use Rattle.std.specs.Prelude.{ℕ, ◌+◌, ◌*◌, ◌≤◌, ◌≡◌, List, length}
use Rattle.std.proofs.Common.{ap, arith}
use Rattle.reader.specs.declared.Answer.{Answer}
use Rattle.reader.specs.Words.{Reader}
use Rattle.reader.specs.Answers.{accepted}
use Rattle.reader.specs.Places.{count_of, root_of}
use Rattle.reader.specs.Walk.{walk_node}
use Rattle.reader_laws.specs.File.{beside, last_of}
use Rattle.reader_laws.specs.Pair.{header_kind}
use Rattle.reader_laws.specs.Sums.{sum_to}
use Rattle.reader_laws.specs.Under.{under, one_rule, root_all}
use Rattle.reader_laws.specs.Entered.{accepted_count}
use Rattle.proof_rules.specs.Check.{node_fault, premise_sequent, start_sequent, proof_answer}
use Rattle.proof_meaning.proofs.Rows.{passed_in}
use Rattle.proof_meaning.proofs.WalkMeans.{walk_means}
use Rattle.translation_rules.specs.Bytes.{derivation_bytes}
use Rattle.translation_addresses.proofs.Addresses.{written_rules}
use Rattle.translation_meaning.specs.Accepted.{obligation_read, proof_read, root_proves, root_rule, bytes_are}

module _ (ob pf : List ℕ) (k : ℕ) (h : proof_answer ob pf ≡ accepted k) where
  abbrev rd : Reader
  rd = beside ob pf

  -- the walk from the root accepts, and counts k nodes
  walked : walk_node rd (node_fault rd) (premise_sequent rd) (root_of pf) (start_sequent rd) 0 ≡ accepted (0 + k)
  walked = (walk_means rd (header_kind ob pf (obligation_read ob pf k h)) (root_of pf) (start_sequent rd) 0 k).1 (root_proves ob pf k h)

  entered : k ≡ under 1 rd (root_of pf)
  entered =
      let all =
      accepted_count 1 rd (node_fault rd) (premise_sequent rd) (λ Γ n e. (passed_in rd Γ n e).rules) (root_of pf) (start_sequent rd) 0 (root_rule ob pf k h)
      (ap (λ (a : Answer). a.refusal) walked) in
      omega (arith, all, ap (λ (a : Answer). a.nodes) walked)

  -- these are all the rule nodes
  rule_nodes : k ≡ sum_to (one_rule 1 (beside ob pf)) (last_of ob pf)
  rule_nodes = omega (arith, entered, root_all 1 ob pf (obligation_read ob pf k h) (proof_read ob pf k h))

  pub length_most : length (derivation_bytes ob pf) ≤ 16 * (1 + count_of pf + 21 * k + 5)
  length_most = omega (arith, bytes_are ob pf k h, written_rules rd (count_of ob) (count_of pf), rule_nodes)
