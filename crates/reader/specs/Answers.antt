-- The answer: "refusal, file (1 or 2), record, nodes"; the first refusal of places one after the other.
use Rattle.std.specs.Prelude.{ℕ, zero, suc, ◌+◌, true, false, eqb}
use Rattle.reader.specs.declared.Answer.{Answer}

-- refusal r in file f at record i, n nodes entered
abbrev pub answer : ℕ → ℕ → ℕ → ℕ → Answer
answer r f i n = record { refusal = r; file = f; at = i; nodes = n }

-- "Acceptance is 0, 0, 0 and the number of rule nodes walked"
abbrev pub accepted : ℕ → Answer
accepted n = answer 0 0 0 n

-- refusal r in file f at record i before any node is entered; acceptance where r is 0
unfoldable pub placed : ℕ → ℕ → ℕ → Answer
placed r f i = elim (eqb r 0) [ true ↦ accepted 0 | false ↦ answer r f i 0 ]

-- "Places go top to bottom": a, unless it accepts, and then b
unfoldable pub or_answer : Answer → Answer → Answer
or_answer a b = elim (eqb a.refusal 0) [ true ↦ b | false ↦ a ]

-- "records, rising": the first of k records from i on with a fault, in file f
unfoldable pub first_fault : (ℕ → ℕ) → ℕ → ℕ → ℕ → Answer
first_fault fault f zero i = accepted 0
first_fault fault f (suc k) i = elim (eqb (fault i) 0) [ true ↦ first_fault fault f k (i + 1) | false ↦ answer (fault i) f i 0 ]
