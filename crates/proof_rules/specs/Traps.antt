-- Traps that the paper names, and those of `choice` (paper 02, U3): a smallest pair of files for each, and one theorem over their table.
use Rattle.std.specs.Prelude.{◌≡◌, refl, List, [], ◌∷◌, map}
use Rattle.reader.specs.declared.Answer.{Answer}
use Rattle.reader.specs.Answers.{answer}
use Rattle.reader.specs.Examples.{Words, r, bytes, Case, gives, answers_of}
use Rattle.proof_rules.specs.Check.{proof_answer}
use Rattle.proof_rules.specs.Opened.{open_proofs}

abbrev trap : List Words → List Words → Answer → Case
trap obligation proof expected = record { obligation = bytes obligation; second = bytes proof; answer = expected }

-- hypothesis c=c, goal ∀x·x=x
abbrev constant_in_hypothesis : List Words
constant_in_hypothesis =
    r 1 10 10 9 ∷
    r 2 83 0 0 ∷ r 3 1 0 0 ∷ r 2 99 0 0 ∷ r 7 2 3 0 ∷ r 20 4 4 0 ∷ r 9 0 2 0 ∷ r 20 6 6 0 ∷ r 19 2 7 0 ∷ r 18 8 0 0 ∷ r 1 5 0 0 ∷ []

-- goal ¬⊥
abbrev not_false : List Words
not_false = r 1 3 0 3 ∷ r 14 0 0 0 ∷ r 18 1 0 0 ∷ r 18 2 0 0 ∷ []

-- goal ⊥
abbrev false_goal : List Words
false_goal = r 1 2 0 2 ∷ r 14 0 0 0 ∷ r 18 1 0 0 ∷ []

-- hypothesis and goal ∀x·∀y·y=y
abbrev two_binders : List Words
two_binders =
    r 1 10 10 9 ∷
    r 2 83 0 0 ∷ r 3 1 0 0 ∷ r 2 99 0 0 ∷ r 7 2 3 0 ∷ r 9 0 2 0 ∷ r 20 5 5 0 ∷ r 19 2 6 0 ∷ r 19 2 7 0 ∷ r 18 8 0 0 ∷ r 1 8 0 0 ∷ []

-- hypotheses SET5, "∃x·(x ∈ s) ⇒ choice(s) ∈ s" for all types, and a ∈ s; goal choice(s) ∈ s: sample c1 of tests/samples
abbrev choice_axiom : List Words
choice_axiom =
    r 1 27 27 25 ∷
    r 2 83 0 0 ∷ r 3 1 0 0 ∷ r 4 2 0 0 ∷ r 2 97 0 0 ∷ r 7 2 4 0 ∷ r 2 115 0 0 ∷ r 7 3 6 0 ∷ r 23 7 2 0 ∷
    r 6 0 0 0 ∷ r 4 9 0 0 ∷ r 9 0 9 0 ∷ r 9 1 10 0 ∷ r 9 0 10 0 ∷ r 21 11 12 0 ∷ r 18 14 0 0 ∷ r 19 9 15 0 ∷
    r 18 16 0 0 ∷ r 23 13 9 0 ∷ r 21 18 13 0 ∷ r 17 17 19 0 ∷ r 19 10 20 0 ∷ r 22 1 21 0 ∷ r 21 5 7 0 ∷ r 21 8 7 0 ∷
    r 18 24 0 0 ∷ r 1 23 0 0 ∷ r 1 22 0 26 ∷ []

-- its proof: SET5 at the type S by 45, at s by 44, and its premise ∃x·(x ∈ s) from a ∈ s
abbrev by_choice_axiom : List Words
by_choice_axiom =
    r 1 44 71 27 ∷
    r 9 0 2 0 ∷ r 9 1 3 0 ∷ r 9 0 3 0 ∷ r 21 28 29 0 ∷ r 18 31 0 0 ∷ r 19 2 32 0 ∷ r 18 33 0 0 ∷ r 23 30 2 0 ∷
    r 21 35 30 0 ∷ r 17 34 36 0 ∷ r 19 3 37 0 ∷ r 21 28 7 0 ∷ r 18 39 0 0 ∷ r 19 2 40 0 ∷ r 18 41 0 0 ∷ r 17 42 24 0 ∷
    r 18 23 0 0 ∷ r 1 23 0 0 ∷ r 34 45 0 0 ∷ r 1 44 0 0 ∷ r 1 5 0 47 ∷ r 1 41 0 48 ∷ r 1 46 0 0 ∷ r 44 49 50 0 ∷
    r 18 42 0 0 ∷ r 1 52 0 0 ∷ r 1 51 0 0 ∷ r 38 53 54 0 ∷ r 1 24 0 0 ∷ r 34 56 0 0 ∷ r 1 43 0 0 ∷ r 1 57 0 0 ∷
    r 1 55 0 59 ∷ r 41 58 60 0 ∷ r 1 43 0 0 ∷ r 1 7 0 62 ∷ r 1 38 0 63 ∷ r 1 61 0 0 ∷ r 44 64 65 0 ∷ r 1 2 0 0 ∷
    r 1 38 0 67 ∷ r 1 22 0 68 ∷ r 1 66 0 0 ∷ r 45 69 70 0 ∷ []

-- hypothesis choice(s) = choice(s), goal ∀x·x=x with x of the type of s
abbrev constant_in_choice : List Words
constant_in_choice =
    r 1 12 12 11 ∷
    r 2 83 0 0 ∷ r 3 1 0 0 ∷ r 4 2 0 0 ∷ r 2 115 0 0 ∷ r 7 3 4 0 ∷ r 23 5 2 0 ∷ r 20 6 6 0 ∷
    r 9 0 3 0 ∷ r 20 8 8 0 ∷ r 19 3 9 0 ∷ r 18 10 0 0 ∷ r 1 7 0 0 ∷ []

-- hypothesis ∀x·choice(x)=choice(x), record 11, or another; goal choice(s)=choice(s), and t beside s
abbrev choice_under_all : Words → List Words
choice_under_all hypothesis =
    r 1 15 15 14 ∷
    r 2 83 0 0 ∷ r 3 1 0 0 ∷ r 4 2 0 0 ∷ r 2 115 0 0 ∷ r 7 3 4 0 ∷ r 2 116 0 0 ∷ r 7 3 6 0 ∷
    r 9 0 3 0 ∷ r 23 8 2 0 ∷ r 20 9 9 0 ∷ r 19 3 10 0 ∷ r 23 5 2 0 ∷ r 20 12 12 0 ∷ r 18 13 0 0 ∷ hypothesis ∷ []

-- ∀x·choice(x)=choice(x) at record t, said to be choice(s)=choice(s)
abbrev choice_at : Words → List Words
choice_at t = r 1 7 22 15 ∷ r 1 13 0 0 ∷ r 34 16 0 0 ∷ r 1 13 0 0 ∷ t ∷ r 1 11 0 19 ∷ r 1 17 0 0 ∷ r 44 20 21 0 ∷ []

-- goal ⊥, and a record made of s of type Set(S)
abbrev beside_false : Words → List Words
beside_false made =
    r 1 9 0 9 ∷ r 2 83 0 0 ∷ r 3 1 0 0 ∷ r 4 2 0 0 ∷ r 4 3 0 0 ∷ r 2 115 0 0 ∷ r 7 3 5 0 ∷ made ∷ r 14 0 0 0 ∷ r 18 8 0 0 ∷ []

abbrev pub traps : List Case
traps =
    -- "freshness looked up in the newest formulas only": c is in the hypothesis
    trap constant_in_hypothesis
    (r 1 8 18 10 ∷
    r 18 5 0 0 ∷ r 1 11 0 0 ∷ r 35 12 0 0 ∷ r 1 5 0 0 ∷ r 1 4 0 14 ∷ r 1 9 0 15 ∷ r 1 13 0 0 ∷ r 43 16 17 0 ∷ [])
    (answer 16 2 18 1) ∷
    -- "⊤ and ¬⊥ alike in the proof check": ¬¬⊥ is a member, ¬⊤ is not
    trap not_false (r 1 1 4 3 ∷ r 33 0 0 0 ∷ []) (answer 14 2 4 1) ∷
    -- "a node shared by two branches"
    trap false_goal
    (r 1 5 7 2 ∷ r 32 0 0 0 ∷ r 1 3 0 0 ∷ r 1 3 0 4 ∷ r 1 1 0 0 ∷ r 37 6 5 0 ∷ [])
    (answer 12 2 3 0) ∷
    -- "replacing index 0 without counting binders crossed": ∀y·c=c for B(c)
    trap two_binders
    (r 1 9 19 10 ∷
    r 20 4 4 0 ∷ r 19 2 11 0 ∷ r 1 12 0 0 ∷ r 1 4 0 13 ∷ r 1 8 0 14 ∷ r 1 8 0 0 ∷ r 34 16 0 0 ∷ r 1 17 0 0 ∷ r 44 15 18 0 ∷ [])
    (answer 15 2 19 1) ∷
    -- "equality by record number": the hypothesis, stored again
    trap two_binders
    (r 1 6 16 10 ∷ r 9 0 2 0 ∷ r 20 5 11 0 ∷ r 19 2 12 0 ∷ r 19 2 13 0 ∷ r 1 14 0 0 ∷ r 34 15 0 0 ∷ [])
    (answer 0 0 0 1) ∷
    -- SET5 "as a hypothesis like any other"
    trap choice_axiom by_choice_axiom (answer 0 0 0 7) ∷
    -- "closedness, replacement, freshness ... take it in": choice(x) is open, choice(s) is choice(x) at s and not at t, s is in choice(s)
    trap (choice_under_all (r 1 10 0 0)) (choice_at (r 1 5 0 18)) (answer 11 1 0 0) ∷
    trap (choice_under_all (r 1 11 0 0)) (choice_at (r 1 5 0 18)) (answer 0 0 0 2) ∷
    trap (choice_under_all (r 1 11 0 0)) (choice_at (r 1 7 0 18)) (answer 15 2 22 1) ∷
    trap constant_in_choice
    (r 1 9 21 12 ∷
    r 20 5 5 0 ∷ r 18 13 0 0 ∷ r 1 14 0 0 ∷ r 35 15 0 0 ∷ r 1 13 0 0 ∷ r 1 5 0 17 ∷ r 1 11 0 18 ∷ r 1 16 0 0 ∷ r 43 19 20 0 ∷ [])
    (answer 16 2 21 1) ∷
    -- "words term s and own type τ, where s is of type Set(τ)"
    trap (beside_false (r 23 6 2 0)) [] (answer 1 2 0 0) ∷
    trap (beside_false (r 23 6 3 0)) [] (answer 10 1 7 0) ∷
    -- not the powerset's own type
    trap (beside_false (r 23 6 4 0)) [] (answer 10 1 7 0) ∷
    trap (beside_false (r 23 2 6 0)) [] (answer 5 1 7 0) ∷
    -- "Words not listed are 0."
    trap (beside_false (r 23 6 2 1)) [] (answer 4 1 7 0) ∷
    -- 24 is no kind
    trap (beside_false (r 24 6 2 0)) [] (answer 3 1 7 0) ∷ []

pub traps_hold : answers_of proof_answer traps ≡ map gives traps
unfolding open_proofs
traps_hold = refl
