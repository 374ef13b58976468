-- The proofs of the claims of `Statements`.
use Rattle.std.specs.Prelude.{ℕ, ◌≡◌, List, map}
use Rattle.std.proofs.Common.{subst, arith}
use Rattle.reader.specs.Words.{Reader}
use Rattle.reader.specs.Trees.{Tree}
use Rattle.reader.specs.Answers.{accepted}
use Rattle.reader.specs.Places.{hypotheses, goal}
use Rattle.reader_laws.specs.File.{alone, beside}
use Rattle.reader_meaning.proofs.FileLaws.{obligation_out, second_out, pair_in, pair_out}
use Rattle.derivation_rules.specs.Erase.{⌊◌⌋}
use Rattle.derivation_rules.specs.Check.{bare_hypotheses, bare_goal, derivation_answer}
use Rattle.derivation_meaning.specs.Derivable.{Sequent, Derivable, ◌∣◌⊢B◌, DerivedByB}
use Rattle.derivation_meaning.specs.Statements.{DerivationMeans, DerivationAccepted, DerivationB, DerivationRead, DerivationRefused}
use Rattle.derivation_meaning.specs.Statements.{DerivationAcceptedOrRefused}
use Rattle.derivation_meaning.proofs.DerivableLaws.{derives-B}
use Rattle.derivation_meaning.proofs.Start.{files_formed, hypotheses_formed, goal_formed, hypotheses_alone, goal_alone}
use Rattle.derivation_meaning.proofs.AnswerLaws.{accepted_means, means_accepted, accepted_some, accepted_refused, refused_means}

pub derivation_read : DerivationRead
derivation_read ob dv = (pair_in 2 ob dv (omega arith), pair_out 2 ob dv)

pub derivation_means : DerivationMeans
derivation_means ob dv k = (accepted_means ob dv k, λ p. means_accepted ob dv k p.0 p.1)

pub derivation_accepted : DerivationAccepted
derivation_accepted ob dv = accepted_some ob dv

-- the start of the pair is the obligation's own
accepted-B : (ob dv : List ℕ) (k : ℕ) → derivation_answer ob dv ≡ accepted k → DerivedByB ob dv
accepted-B ob dv k h =
    let rd : Reader = beside ob dv in
    let p = accepted_means ob dv k h in
    let r = obligation_out ob p.0.obligation in
    let s = second_out 2 ob dv p.0.second in
    let start : Sequent rd (bare_hypotheses rd) (bare_goal rd) = record { members = hypotheses_formed 2 ob dv r s; goal = goal_formed 2 ob dv r s } in
    let derived : rd ∣ bare_hypotheses rd ⊢B bare_goal rd = derives-B (files_formed 2 ob dv r s) p.1 start.members start.goal in
    let own : (C : List Tree → Tree → Type 0) → C (bare_hypotheses rd) (bare_goal rd) → C (map ⌊◌⌋ (hypotheses (alone ob))) ⌊ goal (alone ob) ⌋ =
    λ C c. subst (C (map ⌊◌⌋ (hypotheses (alone ob)))) (goal_alone 2 ob dv r s) (subst (λ Γ. C Γ (bare_goal rd)) (hypotheses_alone 2 ob dv r s) c) in
    record { start = own (Sequent rd) start; derived = own (Derivable rd) derived }

pub derivation-B : DerivationB
derivation-B ob dv k h = accepted-B ob dv k h

pub derivation_accepted_or_refused : DerivationAcceptedOrRefused
derivation_accepted_or_refused ob dv = accepted_refused ob dv

pub derivation_refused : DerivationRefused
derivation_refused ob dv = refused_means ob dv
