-- The derivation check as a calculus of `reader_meaning`, and the laws of answers for it.
use Prim.Native.Nat.{ℕ, zero, suc, ◌<◌, ◌≤◌}
use Rattle.std.specs.Prelude.{◌≡◌, Bool, ◌↔◌, ◌⊎◌, eqb, get_or}
use Rattle.std.proofs.Math.Path.{refl, ap}
use Rattle.std.proofs.Common.{◌∙◌}
use mathlib.Core.List.{List, [], ◌∷◌, map}
use Rattle.std.proofs.Math.Bool.{true, false}
use Rattle.std.proofs.Math.ListN.{length, length-map}
use native.Mathlib.Omega.{arith}
use Rattle.reader.specs.declared.Answer.{Answer}
use Rattle.reader.specs.Words.{Reader}
use Rattle.reader.specs.Tests.{every, if_eq}
use Rattle.reader.specs.Trees.{Tree, leaf, lower}
use Rattle.reader.specs.Chains.{linked, items, premises}
use Rattle.reader.specs.Answers.{accepted}
use Rattle.reader.specs.Places.{hypothesis_chain}
use Rattle.reader.specs.Members.{part}
use Rattle.reader.specs.Notions.{here, there, Every}
use Rattle.reader_laws.specs.NotionLaws.{every_0, every_1, every_2}
use Rattle.reader_laws.specs.File.{beside, ReadObligation, ReadSecond}
use Rattle.reader_laws.specs.Pair.{pair_hypotheses_limit}
use Rattle.reader_meaning.specs.WellFormed.{WellFormedDerivation}
use Rattle.reader_meaning.proofs.FileLaws.{obligation_in, obligation_out, second_in, second_out}
use Rattle.reader_meaning.proofs.StopLaws.{refusal_of, Calculus}
use Rattle.reader_meaning.proofs.AnswerLaws.{some_count, accepted_in, accepted_out, accepted_or_refused, refused_where}
use Rattle.derivation_rules.specs.Erase.{bare_tree, bare_parts}
use Rattle.derivation_rules.specs.Rules.{State, Row, row}
use Rattle.derivation_rules.specs.Check.{row_fault, row_of, node_fault, premise_state, bare_hypotheses, start_state, derivation_walk, derivation_answer}
use Rattle.derivation_rules.specs.StartLaws.{bare_hypotheses_lem}
use Rattle.derivation_meaning.specs.Refused.{node_tests, DerivesState, RefusedDerivation}
use Rattle.derivation_meaning.specs.Statements.{RootDerives}
use Rattle.derivation_meaning.proofs.Plain.{Plain, plain_first, plain_second, not_plain, parts_plain, goal_plain}
use Rattle.derivation_meaning.proofs.RowLaws.{no_fault}
use Rattle.derivation_meaning.proofs.Cases.{Within}
use Rattle.derivation_meaning.proofs.WalkMeans.{walk_derives, derives_walk}

-- the element at a place of a list of which each element has Q
at_place : {A : Type 0} (Q : A → Type 0) (xs : List A) (d : A) (n : ℕ) → Every Q xs → n < length xs → Q (get_or xs n d)
at_place Q [] d n h l = absurd (omega arith)
at_place Q (x ∷ xs) d zero h l = h x (here refl)
at_place Q (x ∷ xs) d (suc n) h l = at_place Q xs d n (λ y m. h y (there m)) (omega arith)

-- what the premises of every rule are to derive is plain, where the parts and the goal are
module _ (ps : List Tree) (st : State) (plain : Every Plain ps) (goal : Plain st.goal) where
  plain_part : (j : ℕ) → Plain (part ps j)
  unfolding Plain
  plain_part j = go ps j plain
    where
      go : (xs : List Tree) (j : ℕ) → Every Plain xs → Plain (get_or xs j leaf)
      go [] j h = refl
      go (x ∷ xs) zero h = h x (here refl)
      go (x ∷ xs) (suc j) h = go xs j (λ y m. h y (there m))

  abbrev Plains : Row → Type 0
  Plains r = Every (λ s. Plain s.goal) r.premises

  either_row : (k c : ℕ) (x y : Row) → Plains x → Plains y → Plains (if_eq k c x y)
  unfolding if_eq
  either_row k c x y p q = go (eqb k c)
    where
      go : (b : Bool) → Plains (elim b as (λ v. Row) [ true ↦ x | false ↦ y ])
      go true = p
      go false = q

  none : Every (λ (s : State). Plain s.goal) []
  none = every_0 (λ s. Plain s.goal)

  one : (s : State) → Plain s.goal → Every (λ (s : State). Plain s.goal) (s ∷ [])
  one s p = every_1 (λ s. Plain s.goal) s p

  two : (s t : State) → Plain s.goal → Plain t.goal → Every (λ (s : State). Plain s.goal) (s ∷ t ∷ [])
  two s t p q = every_2 (λ s. Plain s.goal) s t p q

  plain_row : (k : ℕ) → Plains (row k ps st)
  unfolding row
  plain_row k =
      either_row k 64 _ _ none
      (either_row k 65 _ _ (one _ goal)
      (either_row k 66 _ _ none
      (either_row k 67 _ _ (two _ _ (plain_part 0) goal)
      (either_row k 68 _ _ none
      (either_row k 69 _ _ (two _ _ (plain_first (part ps 0) (plain_part 0)) (plain_part 0))
      (either_row k 70 _ _ (two _ _ (plain_first st.goal goal) (plain_second st.goal goal))
      (either_row k 71 _ _ (one _ (plain_part 0))
      (either_row k 72 _ _ (one _ (plain_part 0))
      (either_row k 73 _ _ (one _ (plain_second st.goal goal))
      (either_row k 74 _ _ (one _ (plain_part 0))
      (either_row k 75 _ _ (two _ _ (plain_part 0) (not_plain (part ps 0) (plain_part 0)))
      (either_row k 76 _ _ (two _ _ (plain_part 0) (not_plain (part ps 0) (plain_part 0)))
      (either_row k 77 _ _ (one _ (plain_part 1))
      (either_row k 78 _ _ (one _ (plain_part 0))
      (either_row k 79 _ _ (two _ _ (plain_part 1) (plain_part 2))
      (either_row k 80 _ _ none none))))))))))))))))

-- the states of premises stay within the limits
stays_within : (rd : Reader) (st : State) (n b : ℕ) → Within st → node_fault rd st n ≡ 0 → b < length (premises rd n) → Within (premise_state rd st n b)
unfolding node_fault premise_state row_of
stays_within rd st n b w h l =
    let p = no_fault rd n st (row_of rd st n) h in
    let number : length (premises rd n) ≡ length (row_of rd st n).premises = p.number in
    let few : b < length (row_of rd st n).premises = omega arith in
    record {
      members = at_place (λ s. length s.members ≤ 2048) (row_of rd st n).premises st b p.limit few;
      goal = at_place (λ s. Plain s.goal) (row_of rd st n).premises st b
          (plain_row (bare_parts rd n) st (λ t m. parts_plain rd n t m) w.goal (rd n 0)) few;
    }

pub derivation_calculus : (rd : Reader) → Calculus 2 rd (node_fault rd) (node_tests rd) (premise_state rd) (DerivesState rd) Within
unfolding node_fault row_fault refusal_of every
derivation_calculus rd = record {
  same = λ st n. refl;
  numbered = λ st n. refl;
  rules = λ st n h. (no_fault rd n st (row_of rd st n) h).rules;
  stays = λ st n b w h l. stays_within rd st n b w h l;
  walked = λ st n count w h. walk_derives rd n st.members st.goal st.depth count w.members w.goal h;
  walks = λ head st n k count p. derives_walk rd head p count;
}

module _ (ob dv : List ℕ) where
  abbrev rd : Reader
  rd = beside ob dv

  -- there are at most 256 hypotheses
  hypotheses_few : ReadObligation ob → ReadSecond 2 ob dv → length (bare_hypotheses rd) ≤ 2048
  unfolding items
  hypotheses_few r s =
      let chain = linked rd (hypothesis_chain rd) in
      let few : length chain ≤ 256 = pair_hypotheses_limit 2 ob dv r s in
      let e : length (map (bare_tree rd) (items rd (hypothesis_chain rd))) ≡ length chain =
      length-map (items rd (hypothesis_chain rd)) (bare_tree rd) ∙ length-map chain (λ l. lower rd l 1) in
      let same : length (bare_hypotheses rd) ≡ length (map (bare_tree rd) (items rd (hypothesis_chain rd))) = ap length (bare_hypotheses_lem rd) in
      omega arith

  -- the start is within the limits
  start_within : WellFormedDerivation ob dv → Within (start_state rd)
  unfolding start_state
  start_within w = record { members = hypotheses_few (obligation_out ob w.obligation) (second_out 2 ob dv w.second); goal = goal_plain rd }

  -- Acceptance gives a well-formed pair whose root derives the start, and k is the number of its nodes; and the other way round.
  pub accepted_means : (k : ℕ) → derivation_answer ob dv ≡ accepted k → WellFormedDerivation ob dv × RootDerives ob dv k
  unfolding derivation_answer derivation_walk start_state
  accepted_means =
      accepted_in 2 (omega arith) ob dv (node_fault rd) (node_tests rd) (premise_state rd) (DerivesState rd) Within (derivation_calculus rd) (start_state rd)
      start_within

  pub means_accepted : (k : ℕ) → WellFormedDerivation ob dv → RootDerives ob dv k → derivation_answer ob dv ≡ accepted k
  unfolding derivation_answer derivation_walk start_state
  means_accepted =
      accepted_out 2 (omega arith) ob dv (node_fault rd) (node_tests rd) (premise_state rd) (DerivesState rd) Within (derivation_calculus rd) (start_state rd)
      start_within

  -- the same where the files are known by the definition's own tests
  pub read_accepted : (k : ℕ) → ReadObligation ob → ReadSecond 2 ob dv → RootDerives ob dv k → derivation_answer ob dv ≡ accepted k
  read_accepted k r s = means_accepted k (record { obligation = obligation_in ob r; second = second_in 2 ob dv (omega arith) r s })

  pub accepted_some : (derivation_answer ob dv).refusal ≡ 0 → (k : ℕ) × (derivation_answer ob dv ≡ accepted k)
  unfolding derivation_answer derivation_walk
  accepted_some =
      some_count 2 (omega arith) ob dv (node_fault rd) (node_tests rd) (premise_state rd) (DerivesState rd) Within (derivation_calculus rd) (start_state rd)
      start_within

  -- Every pair is accepted or refused, and what is refused so is answered so.
  pub accepted_refused : ((k : ℕ) × (WellFormedDerivation ob dv × RootDerives ob dv k)) ⊎ ((a : Answer) × RefusedDerivation ob dv a)
  unfolding start_state
  accepted_refused =
      accepted_or_refused 2 (omega arith) ob dv (node_fault rd) (node_tests rd) (premise_state rd) (DerivesState rd) Within (derivation_calculus rd)
      (start_state rd) start_within

  pub refused_means : (a : Answer) → 1 ≤ a.refusal → (derivation_answer ob dv ≡ a) ↔ RefusedDerivation ob dv a
  unfolding derivation_answer derivation_walk
  refused_means =
      refused_where 2 (omega arith) ob dv (node_fault rd) (node_tests rd) (premise_state rd) (DerivesState rd) Within (derivation_calculus rd) (start_state rd)
      start_within
