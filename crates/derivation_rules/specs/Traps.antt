-- Traps of the derivation rules: a smallest pair of files for each, and one theorem over their table.
use Rattle.std.specs.Prelude.{◌≡◌, refl, List, [], ◌∷◌, map}
use Rattle.reader.specs.declared.Answer.{Answer}
use Rattle.reader.specs.Answers.{answer}
use Rattle.reader.specs.Examples.{Words, r, bytes, Case, gives, answers_of}
use Rattle.derivation_rules.specs.Check.{derivation_answer}
use Rattle.derivation_rules.specs.Opened.{open_derivations}

abbrev trap : List Words → List Words → Answer → Case
trap obligation derivation expected = record { obligation = bytes obligation; second = bytes derivation; answer = expected }

-- goal ∀x·x=x
abbrev reflexive : List Words
reflexive = r 1 6 0 6 ∷ r 2 83 0 0 ∷ r 3 1 0 0 ∷ r 9 0 2 0 ∷ r 20 3 3 0 ∷ r 19 2 4 0 ∷ r 18 5 0 0 ∷ []

-- goal ∀x·x=c
abbrev constant_in_goal : List Words
constant_in_goal =
    r 1 8 0 8 ∷ r 2 83 0 0 ∷ r 3 1 0 0 ∷ r 2 99 0 0 ∷ r 7 2 3 0 ∷ r 9 0 2 0 ∷ r 20 5 4 0 ∷ r 19 2 6 0 ∷ r 18 7 0 0 ∷ []

-- hypothesis c=c, goal ∀x·x=x
abbrev constant_in_hypothesis : List Words
constant_in_hypothesis =
    r 1 10 10 9 ∷
    r 2 83 0 0 ∷ r 3 1 0 0 ∷ r 2 99 0 0 ∷ r 7 2 3 0 ∷ r 20 4 4 0 ∷ r 9 0 2 0 ∷ r 20 6 6 0 ∷ r 19 2 7 0 ∷ r 18 8 0 0 ∷ r 1 5 0 0 ∷ []

-- hypothesis ⊥, goal ⊥
abbrev false_from_false : List Words
false_from_false = r 1 3 3 2 ∷ r 14 0 0 0 ∷ r 18 1 0 0 ∷ r 1 1 0 0 ∷ []

-- goal ⊤
abbrev true_goal : List Words
true_goal = r 1 2 0 2 ∷ r 15 0 0 0 ∷ r 18 1 0 0 ∷ []

-- hypothesis ⊤, goal ¬⊥
abbrev not_false_from_true : List Words
not_false_from_true = r 1 5 5 3 ∷ r 14 0 0 0 ∷ r 18 1 0 0 ∷ r 18 2 0 0 ∷ r 15 0 0 0 ∷ r 1 4 0 0 ∷ []

-- hypothesis ∀x·x=x with x of type S, goal ∀x·x=x with x of type T
abbrev two_types : List Words
two_types =
    r 1 12 12 11 ∷
    r 2 83 0 0 ∷ r 3 1 0 0 ∷ r 2 84 0 0 ∷ r 3 3 0 0 ∷ r 9 0 2 0 ∷ r 20 5 5 0 ∷ r 19 2 6 0 ∷
    r 9 0 4 0 ∷ r 20 8 8 0 ∷ r 19 4 9 0 ∷ r 18 10 0 0 ∷ r 1 7 0 0 ∷ []

-- hypothesis of kind 22, for all types ∀x·x=x, goal ∀x·x=x
abbrev for_all_types : List Words
for_all_types =
    r 1 12 12 11 ∷
    r 2 83 0 0 ∷ r 3 1 0 0 ∷ r 6 0 0 0 ∷ r 9 0 3 0 ∷ r 20 4 4 0 ∷ r 19 3 5 0 ∷ r 22 1 6 0 ∷
    r 9 0 2 0 ∷ r 20 8 8 0 ∷ r 19 2 9 0 ∷ r 18 10 0 0 ∷ r 1 7 0 0 ∷ []

-- hypothesis c=c ⇒ ⊥, goal ⊥
abbrev implication : List Words
implication =
    r 1 9 9 8 ∷
    r 2 83 0 0 ∷ r 3 1 0 0 ∷ r 2 99 0 0 ∷ r 7 2 3 0 ∷ r 20 4 4 0 ∷ r 14 0 0 0 ∷ r 17 5 6 0 ∷ r 18 6 0 0 ∷ r 1 7 0 0 ∷ []

-- hypothesis ∀x·∀y·y=y, goal ∀y·c=c
abbrev two_binders : List Words
two_binders =
    r 1 12 12 11 ∷
    r 2 83 0 0 ∷ r 3 1 0 0 ∷ r 2 99 0 0 ∷ r 7 2 3 0 ∷ r 9 0 2 0 ∷ r 20 5 5 0 ∷ r 19 2 6 0 ∷ r 19 2 7 0 ∷
    r 20 4 4 0 ∷ r 19 2 9 0 ∷ r 18 10 0 0 ∷ r 1 8 0 0 ∷ []

-- hypothesis c=d, goal d=c
abbrev symmetry : List Words
symmetry =
    r 1 10 10 9 ∷
    r 2 83 0 0 ∷ r 3 1 0 0 ∷ r 2 99 0 0 ∷ r 7 2 3 0 ∷ r 2 100 0 0 ∷ r 7 2 5 0 ∷ r 20 4 6 0 ∷ r 20 6 4 0 ∷ r 18 8 0 0 ∷ r 1 7 0 0 ∷ []

-- hypothesis and goal choice(s) ∈ s
abbrev choice_in_set : List Words
choice_in_set =
    r 1 9 9 8 ∷
    r 2 83 0 0 ∷ r 3 1 0 0 ∷ r 4 2 0 0 ∷ r 2 115 0 0 ∷ r 7 3 4 0 ∷ r 23 5 2 0 ∷ r 21 6 5 0 ∷ r 18 7 0 0 ∷ r 1 7 0 0 ∷ []

-- all seventeen rules in one derivation: sample e1 of tests/samples, of the goal ∀x·x=x
abbrev every_rule : List Words
every_rule =
    r 1 73 79 6 ∷ r 2 99 0 0 ∷ r 7 2 7 0 ∷ r 20 8 8 0 ∷ r 15 0 0 0 ∷ r 14 0 0 0 ∷ r 17 10 5 0 ∷ r 16 5 10 0 ∷
    r 16 10 5 0 ∷ r 19 2 5 0 ∷ r 80 0 0 0 ∷ r 1 9 0 0 ∷ r 1 8 0 17 ∷ r 1 16 0 0 ∷ r 77 18 19 0 ∷ r 80 0 0 0 ∷
    r 1 5 0 0 ∷ r 1 9 0 22 ∷ r 1 5 0 23 ∷ r 1 20 0 0 ∷ r 1 21 0 25 ∷ r 79 24 26 0 ∷ r 1 8 0 22 ∷ r 1 27 0 0 ∷
    r 77 28 29 0 ∷ r 1 8 0 0 ∷ r 1 15 0 31 ∷ r 1 30 0 0 ∷ r 78 32 33 0 ∷ r 66 0 0 0 ∷ r 1 35 0 0 ∷ r 1 34 0 36 ∷
    r 75 22 37 0 ∷ r 66 0 0 0 ∷ r 1 38 0 0 ∷ r 1 39 0 40 ∷ r 70 0 41 0 ∷ r 1 14 0 0 ∷ r 1 42 0 0 ∷ r 72 43 44 0 ∷
    r 66 0 0 0 ∷ r 1 46 0 0 ∷ r 1 45 0 47 ∷ r 70 0 48 0 ∷ r 1 13 0 0 ∷ r 1 49 0 0 ∷ r 71 50 51 0 ∷ r 1 10 0 0 ∷
    r 1 52 0 0 ∷ r 65 53 54 0 ∷ r 1 55 0 0 ∷ r 73 0 56 0 ∷ r 1 12 0 0 ∷ r 1 57 0 0 ∷ r 74 58 59 0 ∷ r 64 0 0 0 ∷
    r 1 60 0 0 ∷ r 73 0 62 0 ∷ r 1 63 0 0 ∷ r 1 61 0 64 ∷ r 69 58 65 0 ∷ r 68 0 0 0 ∷ r 66 0 0 0 ∷ r 66 0 0 0 ∷
    r 1 11 0 0 ∷ r 1 69 0 0 ∷ r 1 68 0 71 ∷ r 76 70 72 0 ∷ r 1 73 0 0 ∷ r 1 67 0 74 ∷ r 76 53 75 0 ∷ r 1 66 0 0 ∷
    r 1 76 0 77 ∷ r 67 53 78 0 ∷ []

abbrev pub traps : List Case
traps =
    -- all seventeen rules
    trap reflexive every_rule (answer 0 0 0 26) ∷
    -- "number, class or form of parts or goal": BR6 with the goal ⊥, and BR3 with a part
    trap false_from_false (r 1 1 4 3 ∷ r 68 0 0 0 ∷ []) (answer 13 2 4 1) ∷
    trap false_from_false (r 1 2 5 3 ∷ r 1 1 0 0 ∷ r 66 4 0 0 ∷ []) (answer 13 2 5 1) ∷
    -- R7 with a new constant
    trap reflexive
    (r 1 8 14 6 ∷ r 2 99 0 0 ∷ r 7 2 7 0 ∷ r 20 8 8 0 ∷ r 80 0 0 0 ∷ r 1 9 0 0 ∷ r 1 8 0 11 ∷ r 1 10 0 0 ∷ r 77 12 13 0 ∷ [])
    (answer 0 0 0 2) ∷
    -- "R7 with c still in the goal"
    trap constant_in_goal
    (r 1 6 14 8 ∷ r 20 4 4 0 ∷ r 1 9 0 0 ∷ r 1 4 0 10 ∷ r 80 0 0 0 ∷ r 1 12 0 0 ∷ r 77 11 13 0 ∷ [])
    (answer 16 2 14 1) ∷
    -- R7 with c in Γ
    trap constant_in_hypothesis (r 1 5 15 10 ∷ r 1 5 0 0 ∷ r 1 4 0 11 ∷ r 80 0 0 0 ∷ r 1 13 0 0 ∷ r 77 12 14 0 ∷ []) (answer 16 2 15 1) ∷
    -- BR2 that keeps ¬⊥, which is no member
    trap false_from_false (r 1 4 7 3 ∷ r 66 0 0 0 ∷ r 1 4 0 0 ∷ r 1 2 0 0 ∷ r 65 6 5 0 ∷ []) (answer 14 2 7 1) ∷
    -- BR2 that keeps ⊥ twice, and nothing: then BR3 has no ⊥
    trap false_from_false (r 1 5 8 3 ∷ r 66 0 0 0 ∷ r 1 4 0 0 ∷ r 1 1 0 0 ∷ r 1 1 0 6 ∷ r 65 7 5 0 ∷ []) (answer 0 0 0 2) ∷
    trap false_from_false (r 1 3 6 3 ∷ r 66 0 0 0 ∷ r 1 4 0 0 ∷ r 65 0 5 0 ∷ []) (answer 14 2 4 2) ∷
    -- "⊤ reads as ¬⊥": as a member of Γ, and as a goal ¬Q for R6
    trap not_false_from_true (r 1 1 6 5 ∷ r 66 0 0 0 ∷ []) (answer 0 0 0 1) ∷
    trap true_goal
    (r 1 7 9 2 ∷ r 14 0 0 0 ∷ r 66 0 0 0 ∷ r 68 0 0 0 ∷ r 1 5 0 0 ∷ r 1 4 0 6 ∷ r 1 3 0 0 ∷ r 76 8 7 0 ∷ [])
    (answer 0 0 0 3) ∷
    -- "records compare without" types; "kind 22 as its formula"
    trap two_types (r 1 1 13 12 ∷ r 66 0 0 0 ∷ []) (answer 0 0 0 1) ∷
    trap for_all_types (r 1 1 13 12 ∷ r 66 0 0 0 ∷ []) (answer 0 0 0 1) ∷
    -- and of a choice the own type: the cut formula is the hypothesis
    trap choice_in_set (r 1 8 17 9 ∷ r 23 5 3 0 ∷ r 21 10 5 0 ∷ r 66 0 0 0 ∷ r 66 0 0 0 ∷ r 1 13 0 0 ∷ r 1 12 0 14 ∷ r 1 11 0 0 ∷ r 67 16 15 0 ∷ [])
    (answer 0 0 0 3) ∷
    -- R5 adds ¬Q: its second premise has ¬⊥ to derive
    trap false_from_false
    (r 1 6 9 3 ∷ r 66 0 0 0 ∷ r 66 0 0 0 ∷ r 1 5 0 0 ∷ r 1 4 0 6 ∷ r 1 1 0 0 ∷ r 75 8 7 0 ∷ [])
    (answer 0 0 0 3) ∷
    -- MP: first Γ ⊢ c=c, then Γ ⊢ c=c ⇒ ⊥; the other way round BR3 has no c=c
    trap implication
    (r 1 6 15 9 ∷ r 80 0 0 0 ∷ r 66 0 0 0 ∷ r 1 11 0 0 ∷ r 1 10 0 12 ∷ r 1 7 0 0 ∷ r 69 14 13 0 ∷ [])
    (answer 0 0 0 3) ∷
    trap implication
    (r 1 6 15 9 ∷ r 80 0 0 0 ∷ r 66 0 0 0 ∷ r 1 10 0 0 ∷ r 1 11 0 12 ∷ r 1 7 0 0 ∷ r 69 14 13 0 ∷ [])
    (answer 14 2 11 2) ∷
    -- R4 with P not in Γ
    trap implication (r 1 4 13 9 ∷ r 66 0 0 0 ∷ r 1 10 0 0 ∷ r 1 7 0 0 ∷ r 74 12 11 0 ∷ []) (answer 14 2 13 1) ∷
    -- BR1: all of Γ is the goal; "Γ has a member"
    trap false_from_false (r 1 1 4 3 ∷ r 64 0 0 0 ∷ []) (answer 0 0 0 1) ∷
    trap true_goal (r 1 1 3 2 ∷ r 64 0 0 0 ∷ []) (answer 14 2 3 1) ∷
    -- R8, "replacing index 0 without counting binders crossed": ∀y·c=c is not B(c)
    trap two_binders (r 1 5 17 12 ∷ r 66 0 0 0 ∷ r 1 13 0 0 ∷ r 1 4 0 0 ∷ r 1 8 0 15 ∷ r 78 16 14 0 ∷ []) (answer 15 2 17 1) ∷
    -- R9 with B(x) for x=c: from c=d and c=c to d=c
    trap symmetry
    (r 1 11 21 10 ∷ r 9 0 2 0 ∷ r 20 11 4 0 ∷ r 20 4 4 0 ∷ r 66 0 0 0 ∷ r 80 0 0 0 ∷ r 1 15 0 0 ∷ r 1 14 0 16 ∷
    r 1 13 0 0 ∷ r 1 7 0 18 ∷ r 1 12 0 19 ∷ r 79 20 17 0 ∷ [])
    (answer 0 0 0 3) ∷ []

pub traps_hold : answers_of derivation_answer traps ≡ map gives traps
unfolding open_derivations
traps_hold = refl
