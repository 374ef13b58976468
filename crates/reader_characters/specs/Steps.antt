-- Reading a name: what a step has read, and what is left of the name behind it.
use Rattle.std.specs.Prelude.{ℕ, zero, suc, ◌*◌, ◌/◌, ◌%◌, ◌<◌, ◌≡◌, List, [], ◌∷◌, ◌++◌, Bool, false, not, eqb}
use Rattle.reader.specs.Words.{Reader}
use Rattle.reader.specs.Tests.{every, if_eq, if_true}
use Rattle.reader.specs.Chains.{linked}
use Rattle.reader.specs.Names.{trimmed, name_bytes, characters}
use Rattle.reader_characters.specs.declared.Step.{Step}

-- the low n bytes of a number, the lowest first
unfoldable pub digits : ℕ → ℕ → List ℕ
digits zero v = []
digits (suc n) v = v % 256 ∷ digits n (v / 256)

-- the numbers of n bytes are below it
unfoldable pub top : ℕ → ℕ
top zero = 1
top (suc n) = 256 * top n

-- the bytes of the name that are left: `bytes` of one record, and those of the records from `after` on, 0 where that record is the last
unfoldable pub left_bytes : Reader → ℕ → List ℕ → List ℕ
left_bytes rd after bytes = if_eq after 0 (trimmed bytes) (bytes ++ name_bytes rd (linked rd after))

-- the bytes of the name behind a step
unfoldable pub rest_bytes : Reader → Step → List ℕ
rest_bytes rd s = left_bytes rd s.after (digits s.count s.bytes)

-- What a step holds of a record: no more bytes than it counts, and one at least where other records follow.
pub record Held (s : Step) : Type 0 where
  pub fits : s.bytes < top s.count
  pub some : (s.after ≡ 0 → ⊥) → 0 < s.count

abbrev pub step : Bool → ℕ → ℕ → ℕ → ℕ → Step
step more value bytes count after = record { more = more; value = value; bytes = bytes; count = count; after = after }

-- nothing was read, and nothing is left
abbrev pub nothing : Step
nothing = step false 0 0 0 0

-- the bytes of a name of which a step has read the first
unfoldable pub read : Reader → Step → List ℕ
read rd s = if_true s.more (s.value ∷ rest_bytes rd s) []

-- the characters of a name of which a step has read the first
unfoldable pub spelled : Reader → Step → List ℕ
spelled rd s = if_true s.more (s.value ∷ characters (rest_bytes rd s)) []

-- Bytes are left behind a step; the first of some bytes, or of some characters, was read: each with what the step holds.
pub record Left (rd : Reader) (bytes : List ℕ) (s : Step) : Type 0 where
  pub left : rest_bytes rd s ≡ bytes
  pub held : Held s

pub record FirstByte (rd : Reader) (bytes : List ℕ) (s : Step) : Type 0 where
  pub first : read rd s ≡ bytes
  pub held : Held s

pub record FirstCharacter (rd : Reader) (cs : List ℕ) (s : Step) : Type 0 where
  pub first : spelled rd s ≡ cs
  pub held : Held s

-- every character is one, as `is_name` asks
unfoldable pub is_spelled : List ℕ → Bool
is_spelled cs = every (λ c. not (eqb c 0)) cs
