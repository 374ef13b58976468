-- The bytes of the proof rules: U4, "one byte a rule".
use Rattle.std.specs.Prelude.{ℕ, List, [], ◌∷◌}
use Rattle.reader_bytes.specs.Bytes.{byte_of}

-- rules 32 to 46
abbrev pub proof_bytes : List ℕ
proof_bytes =
    0x00 ∷  -- 32
    0x00 ∷  -- 33
    0x10 ∷  -- 34
    0x10 ∷  -- 35
    0x10 ∷  -- 36
    0x12 ∷  -- 37
    0x11 ∷  -- 38
    0x11 ∷  -- 39
    0x11 ∷  -- 40
    0x12 ∷  -- 41
    0x12 ∷  -- 42
    0x31 ∷  -- 43
    0x31 ∷  -- 44
    0xf1 ∷  -- 45
    0x52 ∷ []  -- 46

unfoldable pub proof_byte : ℕ → ℕ
proof_byte k = byte_of 32 proof_bytes k
