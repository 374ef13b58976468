-- The bytes of the derivation that is written, record after record.
use Rattle.std.specs.Prelude.{ℕ, zero, suc, ◌+◌, ◌*◌, ◌/◌, ◌%◌, List, [], ◌∷◌, ◌++◌, get_or, length, take, drop}
use Rattle.reader.specs.Words.{Reader, word}
use Rattle.reader.specs.Tests.{if_true}
use Rattle.reader.specs.Kinds.{modes, kinds, is_rule}
use Rattle.reader.specs.Places.{count_of, root_of}
use Rattle.translation_rules.specs.Templates.{Line, template, lines_of_start}
use Rattle.translation_rules.specs.Output.{Letters, value, no_line, start_of, written, letters_of, letters_of_start}

-- a word's four bytes, low byte first
abbrev pub bytes4 : ℕ → List ℕ
bytes4 v = v % 256 ∷ v / 256 % 256 ∷ v / 65536 % 256 ∷ v / 16777216 % 256 ∷ []

-- a record's sixteen bytes
abbrev pub bytes16 : ℕ → ℕ → ℕ → ℕ → List ℕ
bytes16 k a b c = bytes4 k ++ (bytes4 a ++ (bytes4 b ++ bytes4 c))

abbrev pub line_bytes : Reader → Letters → Line → List ℕ
line_bytes rd l x = bytes16 x.kind (value rd l x.first) (value rd l x.second) (value rd l x.third)

-- the first r lines of a block
unfoldable pub lines_bytes : Reader → Letters → List Line → ℕ → List ℕ
lines_bytes rd l lines zero = []
lines_bytes rd l lines (suc r) = lines_bytes rd l lines r ++ line_bytes rd l (get_or lines r no_line)

-- the block of record i, empty where it is no rule node
unfoldable pub block_bytes : Reader → ℕ → ℕ → ℕ → List ℕ
block_bytes rd m n i =
    if_true (is_rule modes.proof (rd i 0)) (lines_bytes rd (letters_of rd m n i) (template (rd i 0)) (length (template (rd i 0)))) []

-- the blocks of records m + 1 to m + c
unfoldable pub blocks_bytes : Reader → ℕ → ℕ → ℕ → List ℕ
blocks_bytes rd m n zero = []
blocks_bytes rd m n (suc c) = blocks_bytes rd m n c ++ block_bytes rd m n (m + suc c)

-- record i of the proof's own bytes, ⊥ in place of a rule node
unfoldable pub copy_bytes : Reader → List ℕ → ℕ → ℕ → List ℕ
copy_bytes rd pf m i = if_true (is_rule modes.proof (rd (m + i) 0)) (bytes16 kinds.false 0 0 0) (take 16 (drop (16 * i) pf))

-- the copies of the proof's first c records
unfoldable pub copies_bytes : Reader → List ℕ → ℕ → ℕ → List ℕ
copies_bytes rd pf m zero = []
copies_bytes rd pf m (suc c) = copies_bytes rd pf m c ++ copy_bytes rd pf m (suc c)

-- "1, the count n of the records after it", root node, the obligation's count m
unfoldable pub header_bytes : Reader → ℕ → ℕ → List ℕ
header_bytes rd m n = bytes16 1 (written rd m n) (start_of rd m n + 4) m

-- the whole file
unfoldable pub derivation_bytes : List ℕ → List ℕ → List ℕ
derivation_bytes ob pf =
    header_bytes (word ob pf (count_of ob)) (count_of ob) (count_of pf)
    ++ (copies_bytes (word ob pf (count_of ob)) pf (count_of ob) (count_of pf)
    ++ (blocks_bytes (word ob pf (count_of ob)) (count_of ob) (count_of pf) (count_of pf)
    ++ lines_bytes (word ob pf (count_of ob)) (letters_of_start (word ob pf (count_of ob)) (count_of ob) (count_of pf) (root_of pf)) lines_of_start 5))
