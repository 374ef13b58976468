-- The translation's answer: the four numbers for any two byte lists and the size of the buffer.
use Rattle.std.specs.Prelude.{ℕ, ◌+◌, ◌*◌, List}
use Rattle.reader.specs.declared.Answer.{Answer}
use Rattle.reader.specs.Tests.{if_lt}
use Rattle.reader.specs.Answers.{answer}
use Rattle.reader.specs.Places.{count_of}
use Rattle.reader.specs.Walk.{and_then}
use Rattle.proof_rules.specs.Check.{proof_answer}

-- "16 × (1 + 64 × (n+1)) bytes"
unfoldable pub room_for : ℕ → ℕ
room_for n = 16 * (1 + 64 * (n + 1))

-- The proof check's refusal; "after acceptance (0)", "19 buffer under" that size, with "file 2, record 0 and the whole count"; else the proof check's answer.
unfoldable pub translation_answer : List ℕ → List ℕ → ℕ → Answer
translation_answer ob pf size =
    and_then (proof_answer ob pf) (λ nodes. if_lt size (room_for (count_of pf)) (answer 19 2 0 nodes) (proof_answer ob pf))
