-- How many bytes of each file the programs read, and the size of the buffer that they translate into.
use Rattle.std.specs.Prelude.{ℕ}

-- bytes read of an obligation, of a proof and of a derivation: one more than 1,024, 3,073 and 200,001 records have
abbrev pub obligation_read : ℕ
obligation_read = 16385

abbrev pub proof_read : ℕ
proof_read = 49169

abbrev pub derivation_read : ℕ
derivation_read = 3200017

-- bytes of the buffer: "16 × (1 + 64 × (n+1))" for the longest proof, whose n is 3,072
abbrev pub buffer_size : ℕ
buffer_size = 3146768
