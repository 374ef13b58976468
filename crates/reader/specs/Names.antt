-- Names of symbols, as lists of characters.
use Rattle.std.specs.Prelude.{ℕ, zero, suc, ◌+◌, ◌/◌, ◌%◌, List, [], ◌∷◌, ◌++◌, Bool, true, false, not, eqb}
use Rattle.reader.specs.Words.{Reader}
use Rattle.reader.specs.Tests.{both, either, between, every, if_eq}
use Rattle.reader.specs.Kinds.{kinds}
use Rattle.reader.specs.Chains.{linked}
use Rattle.reader.specs.Accents.{composed}

-- the name record that a symbol names; 0 for a record that is no symbol
unfoldable pub name_of : Reader → ℕ → ℕ
name_of rd i =
    if_eq (rd i 0) kinds.given_type (rd i 1) (if_eq (rd i 0) kinds.constant (rd i 2) (if_eq (rd i 0) kinds.function (rd i 3) 0))

-- Name spaces: 1 of given types, 2 of constants and functions; 0 for a record that is no symbol.
unfoldable pub name_space : ℕ → ℕ
name_space k = if_eq k kinds.given_type 1 (if_eq k kinds.constant 2 (if_eq k kinds.function 2 0))

-- "low byte of each word first": the 4 bytes of a word, before other bytes
unfoldable pub bytes_of : ℕ → List ℕ → List ℕ
bytes_of v rest = v % 256 ∷ v / 256 % 256 ∷ v / 65536 % 256 ∷ v / 16777216 % 256 ∷ rest

-- the bytes of a name record
unfoldable pub record_bytes : Reader → ℕ → List ℕ
record_bytes rd i = bytes_of (rd i 1) (bytes_of (rd i 2) [])

-- bytes without the zero bytes at their end
unfoldable pub trimmed : List ℕ → List ℕ
trimmed [] = []
trimmed (b ∷ bs) = cut b (trimmed bs)
  where
    cut : ℕ → List ℕ → List ℕ
    cut b [] = elim (eqb b 0) [ true ↦ [] | false ↦ b ∷ [] ]
    cut b (c ∷ cs) = b ∷ c ∷ cs

-- the bytes of the name records: "zero bytes only after its last byte", so only those that end the last record are left out
unfoldable pub name_bytes : Reader → List ℕ → List ℕ
name_bytes rd [] = []
name_bytes rd (i ∷ []) = trimmed (record_bytes rd i)
name_bytes rd (i ∷ j ∷ js) = record_bytes rd i ++ name_bytes rd (j ∷ js)

-- "ASCII letters"
unfoldable pub is_letter : ℕ → Bool
is_letter b = either (between 65 90 b) (between 97 122 b)

-- "digits, underscore"
unfoldable pub is_digit_or_underscore : ℕ → Bool
is_digit_or_underscore b = either (between 48 57 b) (eqb b 95)

-- the character of one byte: its number, 0 for no character
unfoldable pub single : ℕ → ℕ
single b = elim (either (is_letter b) (is_digit_or_underscore b)) [ true ↦ b | false ↦ 0 ]

-- "the pairs C3 80 to C3 BF except C3 97 and C3 B7": the character C3 b, U+00C0 to U+00FF, 0 for no character
unfoldable pub accented : ℕ → ℕ
accented b = elim (both (between 128 191 b) (not (either (eqb b 151) (eqb b 183)))) [ true ↦ b + 64 | false ↦ 0 ]

-- The characters that bytes spell, 0 where they spell none. CC is no character: it "may follow an ASCII letter", and then the two and its second byte are one.
unfoldable pub characters : List ℕ → List ℕ
characters [] = []
characters (b ∷ []) = single b ∷ []
characters (b ∷ c ∷ []) = if_eq b 195 (accented c ∷ []) (single b ∷ single c ∷ [])
characters (b ∷ c ∷ d ∷ rest) =
    if_eq b 195 (accented c ∷ characters (d ∷ rest)) (if_eq c 204 (composed b d ∷ characters rest) (single b ∷ characters (c ∷ d ∷ rest)))

-- the characters of symbol i's name
unfoldable pub name : Reader → ℕ → List ℕ
name rd i = characters (name_bytes rd (linked rd (name_of rd i)))

-- "no name record is empty"
unfoldable pub has_bytes : Reader → ℕ → Bool
has_bytes rd i = not (both (eqb (rd i 1) 0) (eqb (rd i 2) 0))

-- "the first is no digit and no underscore"
unfoldable pub starts_well : List ℕ → Bool
starts_well [] = false
starts_well (c ∷ cs) = not (is_digit_or_underscore c)

-- a name's records and its characters are as they must be; its 1 to 32 bytes follow from its 1 to 4 records, of which none is empty
unfoldable pub is_name : Reader → ℕ → Bool
is_name rd i =
    both (every (has_bytes rd) (linked rd (name_of rd i)))
    (both (every (λ c. not (eqb c 0)) (name rd i)) (starts_well (name rd i)))

unfoldable pub same_name : List ℕ → List ℕ → Bool
same_name [] [] = true
same_name [] (d ∷ ds) = false
same_name (c ∷ cs) [] = false
same_name (c ∷ cs) (d ∷ ds) = elim (eqb c d) [ true ↦ same_name cs ds | false ↦ false ]

-- one of the records 1 to n is a symbol of name space `space` with the characters `cs`
unfoldable pub taken_below : Reader → ℕ → List ℕ → ℕ → Bool
taken_below rd space cs zero = false
taken_below rd space cs (suc n) =
    elim (both (eqb (name_space (rd (suc n) 0)) space) (same_name (name rd (suc n)) cs)) [ true ↦ true | false ↦ taken_below rd space cs n ]

-- "No two constants or functions share a name, nor two given types; a constant may share a given type's name."
unfoldable pub name_taken : Reader → ℕ → Bool
name_taken rd zero = false
name_taken rd (suc n) = taken_below rd (name_space (rd (suc n) 0)) (name rd (suc n)) n
