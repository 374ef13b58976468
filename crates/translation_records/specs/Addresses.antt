-- Where blocks stand, as named facts.
use Rattle.std.specs.Prelude.{ℕ, ◌+◌, ◌<◌, ◌≤◌, ◌≡◌, true}
use Rattle.reader.specs.Words.{Reader}
use Rattle.reader.specs.Kinds.{modes, is_rule}
use Rattle.translation_rules.specs.Output.{size, base_of, end_of, start_of}

pub record Addresses (rd : Reader) (m n : ℕ) : Type 0 where
  -- blocks stand past the proof's records
  pub base_past : (i : ℕ) → m + n + 1 ≤ base_of rd m n i
  -- and before the start's block
  pub base_start : (i : ℕ) → m < i → i ≤ m + n → base_of rd m n i + size rd i ≤ start_of rd m n
  -- the concluding node is the last record of its block
  pub end_is : (x : ℕ) → is_rule modes.proof (rd x 0) ≡ true → end_of rd m n x + 1 ≡ base_of rd m n x + size rd x
  -- it stands before the blocks of larger nodes
  pub end_base : (x i : ℕ) → m < x → x < i → i ≤ m + n → is_rule modes.proof (rd x 0) ≡ true → end_of rd m n x < base_of rd m n i
  -- before the start's block
  pub end_start : (x : ℕ) → m < x → x ≤ m + n → is_rule modes.proof (rd x 0) ≡ true → end_of rd m n x < start_of rd m n
  -- and past the proof's records
  pub end_past : (x : ℕ) → is_rule modes.proof (rd x 0) ≡ true → m + n < end_of rd m n x
