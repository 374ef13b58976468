-- The line of an answer: its four numbers in decimal, single spaces between, a newline at its end; the translation's has the length as a fifth.
use Rattle.std.specs.Prelude.{ℕ, ◌+◌, ◌/◌, ◌%◌, ◌<◌, ◌≡◌, List, [], ◌∷◌, ◌++◌, length, take, drop}
use Rattle.reader.specs.declared.Answer.{Answer}
use Rattle.reader.specs.Tests.{if_lt}
use Rattle.reader.specs.Down.{down}

-- the byte of a digit below 10
abbrev pub digit : ℕ → ℕ
digit d = 48 + d

-- a number of one digit is that digit; any other is the number without its last digit, and then that digit
unfoldable pub decimal_step : (ℕ → List ℕ) → ℕ → List ℕ
decimal_step shorter n = if_lt n 10 (digit n ∷ []) (shorter (n / 10) ++ (digit (n % 10) ∷ []))

-- a number in decimal, as bytes, no zero before it
unfoldable pub decimal : ℕ → List ℕ
decimal = down (digit 0 ∷ []) decimal_step

-- four numbers in decimal, single spaces between, a newline at the end
unfoldable pub numbers_line : ℕ → ℕ → ℕ → ℕ → List ℕ
numbers_line a b c d = decimal a ++ (32 ∷ decimal b ++ (32 ∷ decimal c ++ (32 ∷ decimal d ++ (10 ∷ []))))

-- "the answer as four numbers on one line, single spaces between"
unfoldable pub line : Answer → List ℕ
line a = numbers_line a.refusal a.file a.at a.nodes

-- the four numbers and the derivation's length
unfoldable pub translation_line : Answer → ℕ → List ℕ
translation_line a n =
    decimal a.refusal
    ++ (32 ∷ decimal a.file ++ (32 ∷ decimal a.at ++ (32 ∷ decimal a.nodes ++ (32 ∷ decimal n ++ (10 ∷ [])))))

-- An area of so many bytes whose last ones, from place `begin` on, are the text; those before them are as they were. A number has at most 20 digits and a byte
-- after it, so 84 bytes are room for a line of four and 105 for one of five.
pub record EndsIn (size : ℕ) (text before out : List ℕ) (begin : ℕ) : Type 0 where
  pub whole : size ≡ length out
  pub inside : begin < size
  pub stands : drop begin out ≡ text
  pub kept : take begin out ≡ take begin before
