-- What a translation returns, as the answer's four numbers and the derivation's length.
use Rattle.std.specs.Prelude.{ℕ, Result, Ok, Err}
use Rattle.reader.specs.declared.Answer.{Answer}
use Rattle.reader.specs.declared.Refusal.{Refusal}
use Rattle.reader.specs.Refusals.{answer_of}
use Rattle.translation.specs.declared.Translation.{Translation}

-- "Acceptance is 0, 0, 0 and the number of rule nodes walked."
abbrev pub answer_in : Result Translation Refusal → Answer
answer_in (Ok t) = answer_of (Ok t.nodes)
answer_in (Err r) = answer_of (Err r)

-- "0 on refusal"
abbrev pub length_in : Result Translation Refusal → ℕ
length_in (Ok t) = t.length
length_in (Err r) = 0
