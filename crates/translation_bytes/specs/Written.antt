-- The file that is written, as a whole: its length, its header, and that it reads beside the obligation as the translation of the proof.
use Rattle.std.specs.Prelude.{ℕ, suc, ◌+◌, ◌*◌, ◌-◌, ◌<◌, ◌≤◌, ◌≡◌, List, ◌++◌, Bool, true, false, ltb}
use Rattle.std.proofs.Math.Path.{refl, sym, ap}
use Rattle.std.proofs.Common.{◌∙◌, ltb-true, ltb-false}
use Rattle.std.proofs.Math.ListN.{length}
use native.Mathlib.Omega.{arith}
use Rattle.reader.specs.Words.{Reader, word_of, word}
use Rattle.reader.specs.Tests.{if_eq, if_true}
use Rattle.reader.specs.Kinds.{kinds, is_rule}
use Rattle.reader.specs.Places.{count_of, root_of}
use Rattle.reader_laws.specs.Scan.{when_false}
use Rattle.reader_laws.specs.File.{beside}
use Rattle.reader_laws.specs.Pair.{word_first, word_second}
use Rattle.translation_rules.specs.Templates.{template, lines_of_start}
use Rattle.translation_rules.specs.Output.{size, before, base_of, start_of, written, letters_of, letters_of_start, copied, Block, Translated}
use Rattle.translation_rules.specs.Bytes.{lines_bytes, blocks_bytes, copies_bytes, header_bytes, derivation_bytes}
use Rattle.translation_addresses.proofs.Addresses.{base_start, size_rule, last_is}
use Rattle.translation_bytes.specs.Records.{word_front, word_behind, length_joined, record_word}
use Rattle.translation_bytes.specs.Lines.{BlocksFit, StartFits, start_kind, lines_length, lines_word}
use Rattle.translation_bytes.specs.Parts.{copy_word, copies_length, copies_word, blocks_length, blocks_word}

module _ (ob pf : List ℕ) where
  -- the records of obligation and proof, and how many each file has
  abbrev rd : Reader
  rd = beside ob pf

  abbrev m : ℕ
  m = count_of ob

  abbrev n : ℕ
  n = count_of pf

  abbrev root : ℕ
  root = root_of pf

  -- the parts of the file after its header
  abbrev copies : List ℕ
  copies = copies_bytes rd pf m n

  abbrev blocks : List ℕ
  blocks = blocks_bytes rd m n n

  abbrev start : List ℕ
  start = lines_bytes rd (letters_of_start rd m n root) lines_of_start 5

  start_length : length start ≡ 16 * 5
  start_length = lines_length rd (letters_of_start rd m n root) lines_of_start 5

  header_length : length (header_bytes rd m n) ≡ 16 * 1
  unfolding header_bytes
  header_length = refl

  -- the file without its header
  after_header : (i w : ℕ) → word_of (derivation_bytes ob pf) (1 + i) w ≡ word_of (copies ++ (blocks ++ start)) i w
  unfolding derivation_bytes
  after_header i w = word_behind (header_bytes rd m n) (copies ++ (blocks ++ start)) 1 i (1 + i) w header_length refl

  in_header : (w : ℕ) → word_of (derivation_bytes ob pf) 0 w ≡ word_of (header_bytes rd m n) 0 w
  unfolding derivation_bytes
  in_header w = word_front (header_bytes rd m n) (copies ++ (blocks ++ start)) 1 0 w header_length (omega arith)

  module _ (long : 16 * (1 + n) ≤ length pf) where
    -- the file has the header and the records that the header counts, and nothing else
    pub bytes_length : length (derivation_bytes ob pf) ≡ 16 * (1 + written rd m n)
    unfolding derivation_bytes written
    bytes_length =
        length_joined (header_bytes rd m n) (copies ++ (blocks ++ start)) 1 (n + before rd m n + 5) (1 + (n + before rd m n + 5)) header_length
        (length_joined copies (blocks ++ start) n (before rd m n + 5) (n + before rd m n + 5) (copies_length rd pf m n long)
        (length_joined blocks start (before rd m n) 5 (before rd m n + 5) (blocks_length rd m n n) start_length refl) (omega arith)) refl

    -- where the copies, the blocks and the start's block stand
    in_copies : (i w : ℕ) → i < n → word_of (derivation_bytes ob pf) (1 + i) w ≡ word_of copies i w
    in_copies i w h = after_header i w ∙ word_front copies (blocks ++ start) n i w (copies_length rd pf m n long) h

    after_copies : (i w : ℕ) → word_of (derivation_bytes ob pf) (1 + (n + i)) w ≡ word_of (blocks ++ start) i w
    after_copies i w = after_header (n + i) w ∙ word_behind copies (blocks ++ start) n i (n + i) w (copies_length rd pf m n long) refl

    in_blocks : (i w : ℕ) → i < before rd m n → word_of (derivation_bytes ob pf) (1 + (n + i)) w ≡ word_of blocks i w
    in_blocks i w h = after_copies i w ∙ word_front blocks start (before rd m n) i w (blocks_length rd m n n) h

    in_start : (i w : ℕ) → word_of (derivation_bytes ob pf) (1 + (n + (before rd m n + i))) w ≡ word_of start i w
    in_start i w =
        after_copies (before rd m n + i) w ∙ word_behind blocks start (before rd m n) i (before rd m n + i) w (blocks_length rd m n n) refl

  -- The header's words. That records and addresses fit a word follows from the number of the last record.
  module _ (small : m + written rd m n < 4294967296) where
    header_word : (w : ℕ) →
        word_of (derivation_bytes ob pf) 0 w ≡ if_eq w 0 1 (if_eq w 1 (written rd m n) (if_eq w 2 (start_of rd m n + 4) (if_eq w 3 m 0)))
    unfolding header_bytes
    header_word w =
        let last : m + written rd m n ≡ start_of rd m n + 4 = last_is rd m n in
        in_header w ∙ record_word 1 (written rd m n) (start_of rd m n + 4) m w (omega arith) (omega arith) (omega arith) (omega arith)

    pub header_first : word_of (derivation_bytes ob pf) 0 0 ≡ 1
    unfolding if_eq
    header_first = header_word 0

    pub header_count : word_of (derivation_bytes ob pf) 0 1 ≡ written rd m n
    unfolding if_eq
    header_count = header_word 1

    pub header_root : word_of (derivation_bytes ob pf) 0 2 ≡ start_of rd m n + 4
    unfolding if_eq
    header_root = header_word 2

    pub header_obligation : word_of (derivation_bytes ob pf) 0 3 ≡ m
    unfolding if_eq
    header_obligation = header_word 3

  -- The records that the file has, through one numbering with the obligation's.
  module _ (long : 16 * (1 + n) ≤ length pf) (no_rules : (i : ℕ) → i ≤ m → is_rule 1 (rd i 0) ≡ false) where
    obligation_copied : (i w : ℕ) → i ≤ m → beside ob (derivation_bytes ob pf) i w ≡ copied rd i w
    unfolding copied
    obligation_copied i w h =
        word_first ob (derivation_bytes ob pf) m i w h ∙ sym (word_first ob pf m i w h)
        ∙ sym (when_false (if_eq w 0 kinds.false 0) (rd i w) (is_rule 1 (rd i 0)) (no_rules i h))

    -- the copy of the proof's record i - m is that of record i in the one numbering
    same_copy : (i w : ℕ) → m < i → copy_word rd pf m (i - m) w ≡ copied rd i w
    unfolding copy_word copied
    same_copy i w h =
        let own : m + (i - m) ≡ i = omega arith in
        ap (λ (x : ℕ). if_true (is_rule 1 (rd x 0)) (if_eq w 0 kinds.false 0) (word_of pf (i - m) w)) own
        ∙ ap (λ (x : ℕ). if_true (is_rule 1 (rd i 0)) (if_eq w 0 kinds.false 0) x) (sym (word_second ob pf m i w h))

    proof_copied : (i w : ℕ) → m < i → i ≤ m + n → beside ob (derivation_bytes ob pf) i w ≡ copied rd i w
    proof_copied i w p q =
        let here : 1 + (i - m - 1) ≡ i - m = omega arith in
        let next : suc (i - m - 1) ≡ i - m = omega arith in
        word_second ob (derivation_bytes ob pf) m i w p ∙ ap (λ (x : ℕ). word_of (derivation_bytes ob pf) x w) (sym here)
        ∙ in_copies long (i - m - 1) w (omega arith) ∙ copies_word rd pf m n (i - m - 1) w long (omega arith)
        ∙ ap (λ (x : ℕ). copy_word rd pf m x w) next ∙ same_copy i w p

    -- the obligation's records stay, and so do the proof's but for the rule nodes
    all_copied : (i w : ℕ) → i ≤ m + n → beside ob (derivation_bytes ob pf) i w ≡ copied rd i w
    all_copied i w h = go (ltb m i) refl
      where
        go : (b : Bool) → ltb m i ≡ b → beside ob (derivation_bytes ob pf) i w ≡ copied rd i w
        go true e = proof_copied i w (ltb-true m i e) h
        go false e = obligation_copied i w (ltb-false m i e)

  module _ (long : 16 * (1 + n) ≤ length pf) (fits : BlocksFit rd m n) where
    -- the block of each rule node stands where the addresses say
    block_written : (i : ℕ) → m < i → i ≤ m + n → is_rule 1 (rd i 0) ≡ true →
        Block rd (beside ob (derivation_bytes ob pf)) (letters_of rd m n i) (template (rd i 0))
    unfolding base_of start_of
    block_written i p q h r w less =
        let same : size rd i ≡ length (template (rd i 0)) = (size_rule rd i h).0 in
        let ends : m + n + 1 + before rd m (i - (m + 1)) + size rd i ≤ m + n + 1 + before rd m n = base_start rd m n i p q in
        let here : m + n + 1 + before rd m (i - (m + 1)) + r - m ≡ 1 + (n + (before rd m (i - (m + 1)) + r)) = omega arith in
        word_second ob (derivation_bytes ob pf) m (m + n + 1 + before rd m (i - (m + 1)) + r) w (omega arith)
        ∙ ap (λ (x : ℕ). word_of (derivation_bytes ob pf) x w) here ∙ in_blocks long (before rd m (i - (m + 1)) + r) w (omega arith)
        ∙ blocks_word rd m n fits n i r w (omega arith) p q h less

  module _ (long : 16 * (1 + n) ≤ length pf) (start_fits : StartFits rd m n root) where
    -- and so does the start's
    start_written : Block rd (beside ob (derivation_bytes ob pf)) (letters_of_start rd m n root) lines_of_start
    unfolding start_of
    start_written r w less =
        let here : m + n + 1 + before rd m n + r - m ≡ 1 + (n + (before rd m n + r)) = omega arith in
        word_second ob (derivation_bytes ob pf) m (m + n + 1 + before rd m n + r) w (omega arith)
        ∙ ap (λ (x : ℕ). word_of (derivation_bytes ob pf) x w) here ∙ in_start long r w
        ∙ lines_word rd (letters_of_start rd m n root) lines_of_start start_kind start_fits 5 r w less (omega arith)

  module _ (long : 16 * (1 + n) ≤ length pf) (no_rules : (i : ℕ) → i ≤ m → is_rule 1 (rd i 0) ≡ false)
      (fits : BlocksFit rd m n) (start_fits : StartFits rd m n root) where
    -- a reader of the obligation and the file that is written has the records of the translation
    pub translated : Translated rd (word ob (derivation_bytes ob pf) m) m n root
    translated = record { copies = all_copied long no_rules; blocks = block_written long fits; start = start_written long start_fits }
