-- Both spellings of an accent: names that are taken, and names that are none, in one theorem over their table.
use Rattle.std.specs.Prelude.{ℕ, ◌+◌, ◌*◌, ◌≡◌, refl, List, [], ◌∷◌, map}
use Rattle.reader.specs.declared.Answer.{Answer}
use Rattle.reader.specs.Answers.{answer}
use Rattle.reader.specs.Examples.{Words, r, bytes, Case, gives, answers_of}
use Rattle.proof_rules.specs.Check.{proof_answer}
use Rattle.proof_rules.specs.Opened.{open_proofs}

-- a name record with these bytes
abbrev named : ℕ → ℕ → ℕ → ℕ → ℕ → ℕ → ℕ → ℕ → Words
named a b c d e f g h = r 2 (a + 256 * b + 65536 * c + 16777216 * d) (e + 256 * f + 65536 * g + 16777216 * h) 0

-- "the two Médocs": é as C3 A9, and as 65 CC 81
abbrev composed_medoc : Words
composed_medoc = named 77 195 169 100 111 99 0 0

abbrev marked_medoc : Words
marked_medoc = named 77 101 204 129 100 111 99 0

-- a name that none of the others is
abbrev other : Words
other = named 120 0 0 0 0 0 0 0

-- Goal ∀x·x=x, with the names of a given type and of a constant in the obligation, and of the constant in its proof by rules 43 and 35.
abbrev case : Words → Words → Words → Answer → Case
case given_type constant own expected = record {
  obligation = bytes (r 1 8 0 8 ∷ given_type ∷ r 3 1 0 0 ∷ constant ∷ r 7 2 3 0 ∷ r 9 0 2 0 ∷ r 20 5 5 0 ∷ r 19 2 6 0 ∷ r 18 7 0 0 ∷ []);
  second = bytes (
      r 1 11 19 8 ∷ own ∷ r 7 2 9 0 ∷ r 20 10 10 0 ∷ r 18 11 0 0 ∷ r 1 12 0 0 ∷
      r 35 13 0 0 ∷ r 1 11 0 0 ∷ r 1 10 0 15 ∷ r 1 8 0 16 ∷ r 1 14 0 0 ∷ r 43 17 18 0 ∷ []);
  answer = expected;
}

-- the proof's constant has the name
abbrev own : Words → Answer → Case
own name expected = case other other name expected

abbrev pub spellings : List Case
spellings =
    case other marked_medoc composed_medoc (answer 9 2 10 0) ∷  -- "9 catches the two Médocs"
    case other composed_medoc marked_medoc (answer 9 2 10 0) ∷
    case other marked_medoc marked_medoc (answer 9 2 10 0) ∷
    case composed_medoc other marked_medoc (answer 0 0 0 2) ∷  -- "a constant may share a given type's name"
    own (named 121 204 136 0 0 0 0 0) (answer 0 0 0 2) ∷  -- y CC 88 is FF
    own (named 89 204 136 0 0 0 0 0) (answer 8 2 10 0) ∷  -- "A pair with no such letter": Y CC 88 is U+0178
    own (named 69 204 129 204 129 0 0 0) (answer 8 2 10 0) ∷  -- "or a second mark"
    own (named 195 137 204 129 0 0 0 0) (answer 8 2 10 0) ∷  -- after a letter that is not ASCII
    own (named 69 49 204 129 0 0 0 0) (answer 8 2 10 0) ∷  -- after a digit
    own (named 204 129 69 0 0 0 0 0) (answer 8 2 10 0) ∷  -- first
    own (named 69 204 132 0 0 0 0 0) (answer 8 2 10 0) ∷  -- no mark of the list
    own (named 69 204 0 0 0 0 0 0) (answer 8 2 10 0) ∷ []  -- half a mark

pub spellings_hold : answers_of proof_answer spellings ≡ map gives spellings
unfolding open_proofs
spellings_hold = refl
