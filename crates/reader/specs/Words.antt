-- Files: 16-byte records of four 32-bit words, low byte first; an obligation and a second file are read through one numbering.
use Rattle.std.specs.Prelude.{ℕ, ◌+◌, ◌*◌, ◌-◌, ◌/◌, List, true, false, ltb, get_or, length}
use Rattle.reader.specs.Tests.{if_lt}

-- A reader: `rd i w` is word w of record i. Every definition above this file takes a reader and knows no bytes.
abbrev pub Reader : Type 0
Reader = ℕ → ℕ → ℕ

-- "32-bit little-endian"
abbrev pub le32 : ℕ → ℕ → ℕ → ℕ → ℕ
le32 a b c d = a + 256 * b + 65536 * c + 16777216 * d

-- the 32-bit word that starts at byte `at`; a byte past the end reads as 0
unfoldable pub word_from : List ℕ → ℕ → ℕ
word_from s at = le32 (get_or s at 0) (get_or s (at + 1) 0) (get_or s (at + 2) 0) (get_or s (at + 3) 0)

-- "A file is 16-byte records of four 32-bit little-endian words k, a, b, c": word w, 0 to 3, of record i of one file
unfoldable pub word_of : List ℕ → ℕ → ℕ → ℕ
word_of s i w = elim (ltb w 4) [ true ↦ word_from s (16 * i + 4 * w) | false ↦ 0 ]

-- Two readers through one numbering: records 0 to m of the first, m + 1 on of the second.
unfoldable pub through : Reader → Reader → ℕ → Reader
through first second m i w = if_lt m i (second (i - m) w) (first i w)

-- "Obligation records are numbered 1 to m, those of the second file m+1 to m+n. Obligation and proof are read through one numbering."
unfoldable pub word : List ℕ → List ℕ → ℕ → Reader
word obligation second m = through (word_of obligation) (word_of second) m

-- how many records a file has, the header counted
unfoldable pub record_count : List ℕ → ℕ
record_count s = length s / 16
