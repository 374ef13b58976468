-- The bytes of the derivation rules: U4, "one byte a rule".
use Rattle.std.specs.Prelude.{ℕ, List, [], ◌∷◌}
use Rattle.reader_bytes.specs.Bytes.{byte_of}

-- rules 64 to 80
abbrev pub derivation_bytes : List ℕ
derivation_bytes =
    0x00 ∷  -- 64 BR1
    0xf1 ∷  -- 65 BR2
    0x00 ∷  -- 66 BR3
    0x12 ∷  -- 67 BR4
    0x00 ∷  -- 68 BR6
    0x12 ∷  -- 69 MP
    0x02 ∷  -- 70 R1
    0x11 ∷  -- 71 R2
    0x11 ∷  -- 72 R2'
    0x01 ∷  -- 73 R3
    0x11 ∷  -- 74 R4
    0x12 ∷  -- 75 R5
    0x12 ∷  -- 76 R6
    0x21 ∷  -- 77 R7
    0x21 ∷  -- 78 R8
    0x32 ∷  -- 79 R9
    0x00 ∷ []  -- 80 R10

unfoldable pub derivation_byte : ℕ → ℕ
derivation_byte k = byte_of 64 derivation_bytes k
