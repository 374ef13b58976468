-- U4, "The facts about each rule kind (number of parts, number of premises) should take one byte a rule, the two halves read apart, with 15 for a number that varies."
use Rattle.std.specs.Prelude.{ℕ, ◌-◌, ◌/◌, ◌%◌, List, get_or}
use Rattle.reader.specs.Tests.{if_lt}

-- the byte of kind k in a table that begins with kind `first`, 0 where it has none
unfoldable pub byte_of : ℕ → List ℕ → ℕ → ℕ
byte_of first table k = if_lt k first 0 (get_or table (k - first) 0)

-- the high half: the number of parts, 15 where it varies
unfoldable pub parts_of : ℕ → ℕ
parts_of byte = byte / 16

-- the low half: the number of premises
unfoldable pub premises_of : ℕ → ℕ
premises_of byte = byte % 16
