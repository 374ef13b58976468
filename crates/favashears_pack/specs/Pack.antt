-- An answer in one 64-bit number: the refusal in bits 56 to 63, the file in 48 to 55, the record in 24 to 47, the nodes in 0 to 23.
use Rattle.std.specs.Prelude.{ℕ, ◌+◌, ◌*◌, ◌/◌, ◌%◌, ◌≡◌}
use Rattle.reader.specs.declared.Answer.{Answer}

unfoldable pub pack : Answer → ℕ
pack a = a.refusal % 256 * 72057594037927936 + a.file % 256 * 281474976710656 + a.at % 16777216 * 16777216 + a.nodes % 16777216

-- the four numbers, read back from their bits
unfoldable pub refusal_in : ℕ → ℕ
refusal_in n = n / 72057594037927936

unfoldable pub file_in : ℕ → ℕ
file_in n = n / 281474976710656 % 256

unfoldable pub record_in : ℕ → ℕ
record_in n = n / 16777216 % 16777216

unfoldable pub nodes_in : ℕ → ℕ
nodes_in n = n % 16777216

-- what a caller reads from the bits of n are the four numbers of the answer
pub record Unpacks (n : ℕ) (a : Answer) : Type 0 where
  pub refusal_is : refusal_in n ≡ a.refusal
  pub file_is : file_in n ≡ a.file
  pub record_is : record_in n ≡ a.at
  pub nodes_are : nodes_in n ≡ a.nodes
