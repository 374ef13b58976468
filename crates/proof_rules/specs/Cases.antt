-- Cases D1 to D12 of the paper, in its words, and one theorem over their table: the definition gives each its answer.
use Rattle.std.specs.Prelude.{ℕ, ◌-◌, ◌≡◌, refl, List, [], ◌∷◌, map, set, take}
use Rattle.reader.specs.declared.Answer.{Answer}
use Rattle.reader.specs.Answers.{answer}
use Rattle.reader.specs.Examples.{Words, r, bytes, Case, gives, answers_of}
use Rattle.proof_rules.specs.Check.{proof_answer}
use Rattle.proof_rules.specs.Opened.{open_proofs}

abbrev obligation1 : List Words
obligation1 = r 1 6 0 6 ∷ r 2 83 0 0 ∷ r 3 1 0 0 ∷ r 9 0 2 0 ∷ r 20 3 3 0 ∷ r 19 2 4 0 ∷ r 18 5 0 0 ∷ []

abbrev proof1 : List Words
proof1 =
    r 1 11 17 6 ∷
    r 2 99 0 0 ∷  -- 7
    r 7 2 7 0 ∷  -- 8
    r 20 8 8 0 ∷  -- 9
    r 18 9 0 0 ∷  -- 10
    r 1 10 0 0 ∷  -- 11
    r 35 11 0 0 ∷  -- 12
    r 1 9 0 0 ∷  -- 13
    r 1 8 0 13 ∷  -- 14
    r 1 6 0 14 ∷  -- 15
    r 1 12 0 0 ∷  -- 16
    r 43 15 16 0 ∷ []  -- 17

-- D1 with record i of its proof, 7 to 17, another one
abbrev with : ℕ → Words → List Words
with i x = set proof1 (i - 6) x

-- goal ∀x·x=c with c from the obligation
abbrev obligation12 : List Words
obligation12 = r 1 8 0 8 ∷ r 2 83 0 0 ∷ r 3 1 0 0 ∷ r 2 99 0 0 ∷ r 7 2 3 0 ∷ r 9 0 2 0 ∷ r 20 5 4 0 ∷ r 19 2 6 0 ∷ r 18 7 0 0 ∷ []

abbrev proof12 : List Words
proof12 =
    r 1 9 17 8 ∷
    r 20 4 4 0 ∷ r 18 9 0 0 ∷ r 1 10 0 0 ∷ r 35 11 0 0 ∷ r 1 9 0 0 ∷ r 1 4 0 13 ∷ r 1 8 0 14 ∷ r 1 12 0 0 ∷ r 43 15 16 0 ∷ []

-- a proof of D1's obligation, and the answer
abbrev case1 : List ℕ → Answer → Case
case1 proof expected = record { obligation = bytes obligation1; second = proof; answer = expected }

abbrev pub table : List Case
table =
    case1 (bytes proof1) (answer 0 0 0 2) ∷  -- D1
    case1 (bytes (with 6 (r 1 11 12 6))) (answer 12 2 12 0) ∷  -- D2 root 12
    case1 (bytes (with 13 (r 1 4 0 0))) (answer 15 2 17 1) ∷  -- D3 record 13 item 4
    case1 (bytes (with 12 (r 36 11 0 0))) (answer 13 2 12 2) ∷  -- D4 record 12 kind 36
    case1 (bytes (with 12 (r 34 11 0 0))) (answer 14 2 12 2) ∷  -- D5 record 12 kind 34
    case1 (bytes (with 9 (r 20 8 2 0))) (answer 5 2 9 0) ∷  -- D6 record 9 is 20,8,2,0
    case1 (bytes (with 7 (r 2 83 0 0))) (answer 0 0 0 2) ∷  -- D7 record 7 is 2,83,0,0
    case1 (bytes (with 7 (r 2 99 1 0))) (answer 8 2 8 0) ∷  -- D8 record 7 is 2,99,1,0
    case1 (bytes (with 7 (r 2 35267 0 0))) (answer 0 0 0 2) ∷  -- D9 record 7 is 2,35267,0,0 (C3 89)
    case1 (bytes (with 7 (r 2 8506437 0 0))) (answer 0 0 0 2) ∷  -- D10 record 7 is 2,8506437,0,0 (45 CC 81)
    case1 (take 15 (bytes proof1)) (answer 1 2 0 0) ∷  -- D11 proof of 15 bytes
    record { obligation = bytes obligation12; second = bytes proof12; answer = answer 16 2 17 1 } ∷ []  -- D12

-- The definition's answers, one after the other, are the table's.
pub cases_hold : answers_of proof_answer table ≡ map gives table
unfolding open_proofs
cases_hold = refl
