-- The proofs of the claims of `Statements`.
use Rattle.std.specs.Prelude.{ℕ, ◌≡◌, List}
use Rattle.std.proofs.Common.{sym, ap, subst, ◌∙◌, arith}
use Rattle.reader.specs.declared.Answer.{Answer}
use Rattle.reader.specs.Trees.{Tree, tree, first_of, ¬ᵗ◌}
use Rattle.reader.specs.Members.{◌▹◌}
use Rattle.reader.specs.Places.{negated_goal, hypotheses, goal}
use Rattle.reader_laws.specs.Parts.{not_tree}
use Rattle.reader_laws.specs.File.{alone, beside, ReadObligation, ReadSecond, reading_parts, goal_parts}
use Rattle.reader_laws.specs.Pair.{obligation_tree, obligation_goal, goal_range, pair_hypotheses_same}
use Rattle.reader_meaning.proofs.FileLaws.{pair_in, pair_out}
use Rattle.proof_rules.specs.Check.{start_sequent}
use Rattle.proof_meaning.specs.LL.{LL}
use Rattle.proof_meaning.specs.Statements.{ProofMeans, ProofAccepted, ProofTyped, ProofLL, ProofRead, ProofRefused, ProofAcceptedOrRefused}
use Rattle.proof_meaning.proofs.LLLaws.{proves-LL}
use Rattle.proof_meaning.proofs.TypedStart.{files_typed, start_sequent_lem}
use Rattle.proof_meaning.proofs.AnswerLaws.{read_and_walked, accepted_means, means_accepted, accepted_some, accepted_refused, refused_means}

pub proof_read : ProofRead
proof_read ob pf = (pair_in 1 ob pf (omega arith), pair_out 1 ob pf)

pub proof_means : ProofMeans
proof_means ob pf k = (accepted_means ob pf k, λ p. means_accepted ob pf k p.0 p.1)

pub proof_accepted : ProofAccepted
proof_accepted ob pf = accepted_some ob pf

-- the start, read from the obligation by itself
pub start_is : (ob pf : List ℕ) → ReadObligation ob → ReadSecond 1 ob pf →
    start_sequent (beside ob pf) ≡ hypotheses (alone ob) ▹ ¬ᵗ (goal (alone ob))
unfolding start_sequent first_of
start_is ob pf r t =
    let g = goal_range ob r in
    let same = sym (pair_hypotheses_same 1 ob pf r t) in
    let here = ap (tree (beside ob pf)) (sym (obligation_goal ob pf)) ∙ sym (obligation_tree ob pf (negated_goal (alone ob)) g.1) in
    let negation = not_tree 0 (alone ob) (negated_goal (alone ob)) (r.sound _ g.0 g.1) g.0 (goal_parts (alone ob) r.goal).0 in
    let under : tree (alone ob) (negated_goal (alone ob)) ≡ ¬ᵗ (goal (alone ob)) = negation ∙ ap (λ (P : Tree). ¬ᵗ (first_of P)) (sym negation) in
    ap (λ (Γ : List Tree). Γ ▹ tree (beside ob pf) (negated_goal (beside ob pf))) same
    ∙ ap (λ (P : Tree). hypotheses (alone ob) ▹ P) (here ∙ under)

pub proof_typed : ProofTyped
proof_typed ob pf w =
    let r = reading_parts 1 ob pf (ap (λ (a : Answer). a.refusal) (pair_out 1 ob pf w)) in
    files_typed ob pf r.0 r.1

pub proof-LL : ProofLL
proof-LL ob pf k h =
    let p = read_and_walked ob pf (ap (λ (a : Answer). a.refusal) h) in
    let r = reading_parts 1 ob pf (ap (λ (a : Answer). a.refusal) p.0) in
    subst (LL (beside ob pf)) (start_is ob pf r.0 r.1)
    (proves-LL (files_typed ob pf r.0 r.1) (accepted_means ob pf k h).1 (start_sequent_lem ob pf r.0 r.1))

pub proof_accepted_or_refused : ProofAcceptedOrRefused
proof_accepted_or_refused ob pf = accepted_refused ob pf

pub proof_refused : ProofRefused
proof_refused ob pf = refused_means ob pf
