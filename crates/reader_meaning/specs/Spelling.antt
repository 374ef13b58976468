-- Names: which bytes spell one, and which records must have one.
use Rattle.std.specs.Prelude.{ℕ, ◌≤◌, ◌≡◌, List, [], ◌∷◌}
use Rattle.reader.specs.Words.{Reader}
use Rattle.reader.specs.Chains.{linked}
use Rattle.reader.specs.Names.{name_of, name_bytes}
use Rattle.reader.specs.Accents.{line, decompositions}
use Rattle.reader.specs.Notions.{◌∈◌, Every}

-- "ASCII letters"
pub data Letter (b : ℕ) : Type 0 where
  capital : 65 ≤ b → b ≤ 90 → Letter b
  small : 97 ≤ b → b ≤ 122 → Letter b

-- "digits, underscore"
pub data DigitOrUnderscore (b : ℕ) : Type 0 where
  digit : 48 ≤ b → b ≤ 57 → DigitOrUnderscore b
  underscore : b ≡ 95 → DigitOrUnderscore b

-- "the pairs C3 80 to C3 BF except C3 97 and C3 B7"
pub record Accented (b c : ℕ) : Type 0 where
  pub first : b ≡ 195
  pub low : 128 ≤ c
  pub high : c ≤ 191
  pub not_times : c ≡ 151 → ⊥
  pub not_divided : c ≡ 183 → ⊥

-- "One of the byte pairs CC 80, CC 81, CC 82, CC 83, CC 88, CC 8A, CC A7 may now follow an ASCII letter": bytes b and c d of which the database has a letter
pub record Marked (b c d : ℕ) : Type 0 where
  pub first : c ≡ 204
  pub letter : ℕ
  pub decomposed : line letter b d ∈ decompositions

-- bytes that are all characters
pub data Spelled : List ℕ → Type 0 where
  end : Spelled []
  letter : {b : ℕ} {bs : List ℕ} → Letter b → Spelled bs → Spelled (b ∷ bs)
  digit_or_underscore : {b : ℕ} {bs : List ℕ} → DigitOrUnderscore b → Spelled bs → Spelled (b ∷ bs)
  accented : {b c : ℕ} {bs : List ℕ} → Accented b c → Spelled bs → Spelled (b ∷ c ∷ bs)
  marked : {b c d : ℕ} {bs : List ℕ} → Marked b c d → Spelled bs → Spelled (b ∷ c ∷ d ∷ bs)

-- "the first is no digit and no underscore"
pub data SpelledName : List ℕ → Type 0 where
  letter : {b : ℕ} {bs : List ℕ} → Letter b → Spelled bs → SpelledName (b ∷ bs)
  accented : {b c : ℕ} {bs : List ℕ} → Accented b c → Spelled bs → SpelledName (b ∷ c ∷ bs)
  marked : {b c d : ℕ} {bs : List ℕ} → Marked b c d → Spelled bs → SpelledName (b ∷ c ∷ d ∷ bs)

-- The name that symbol i names: `name_bytes` are the bytes of its records without the zero bytes at the end of the last.
pub record GoodName (rd : Reader) (i : ℕ) : Type 0 where
  pub none_empty : Every (λ j. rd j 1 ≡ 0 → rd j 2 ≡ 0 → ⊥) (linked rd (name_of rd i))
  pub spelled : SpelledName (name_bytes rd (linked rd (name_of rd i)))

pub data ConstantOrFunction (k : ℕ) : Type 0 where
  constant : k ≡ 7 → ConstantOrFunction k
  function : k ≡ 8 → ConstantOrFunction k

-- "symbols (given types, constants, functions)"
pub data Symbol (k : ℕ) : Type 0 where
  given_type : k ≡ 3 → Symbol k
  other : ConstantOrFunction k → Symbol k
