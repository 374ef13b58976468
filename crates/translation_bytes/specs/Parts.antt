-- The parts of the file between header and start: the copies of the proof's records, and the blocks of its rule nodes.
use Prim.Native.Nat.{ℕ, zero, suc, ◌+◌, ◌*◌, ◌-◌, ◌<◌, ◌≤◌}
use Rattle.std.specs.Prelude.{◌≡◌, Bool, eqb, get_or, take, drop}
use Rattle.std.proofs.Math.Path.{refl, ap}
use Rattle.std.proofs.Common.{sym, ◌∙◌, eq-or-lt_of_le}
use mathlib.Core.List.{List, [], ◌++◌}
use Rattle.std.proofs.Math.Bool.{true, false}
use Rattle.std.proofs.Math.Logic.{⊎_elim}
use Rattle.std.proofs.Math.ListN.{length}
use native.Mathlib.Omega.{arith}
use Rattle.reader.specs.Words.{Reader, word_of}
use Rattle.reader.specs.Tests.{if_eq, if_true}
use Rattle.reader.specs.Kinds.{kinds, is_rule}
use Rattle.reader_laws.specs.Scan.{when_true}
use Rattle.translation_rules.specs.Templates.{template}
use Rattle.translation_rules.specs.Output.{line_word, no_line, size, before, base_of, letters_of}
use Rattle.translation_rules.specs.Bytes.{bytes16, lines_bytes, block_bytes, blocks_bytes, copy_bytes, copies_bytes}
use Rattle.translation_addresses.proofs.Addresses.{base_grows, size_rule}
use Rattle.translation_bytes.specs.Records.{word_front, word_behind, word_part, length_part, length_joined, record_word}
use Rattle.translation_bytes.specs.Lines.{BlocksFit, template_kind, lines_length, lines_word}

-- selection between equals
either_equal : (a b x : ℕ) → if_eq a b x x ≡ x
unfolding if_eq
either_equal a b x = go (eqb a b)
  where
    go : (t : Bool) → elim t as (λ y. ℕ) [ true ↦ x | false ↦ x ] ≡ x
    go true = refl
    go false = refl

-- the record of ⊥ has no parts: its words after the kind are 0
bottom_word : (w : ℕ) → word_of (bytes16 kinds.false 0 0 0) 0 w ≡ if_eq w 0 kinds.false 0
bottom_word w =
    record_word kinds.false 0 0 0 w (omega arith) (omega arith) (omega arith) (omega arith)
    ∙ rw (either_equal w 3 0, either_equal w 2 0, either_equal w 1 0)

-- Copies.
module _ (rd : Reader) (pf : List ℕ) (m : ℕ) where
  -- what the copy of the proof's record i has for word w
  unfoldable pub copy_word : ℕ → ℕ → ℕ
  copy_word i w = if_true (is_rule 1 (rd (m + i) 0)) (if_eq w 0 kinds.false 0) (word_of pf i w)

  -- each copy is one record
  copy_length : (i : ℕ) → 16 * i + 16 ≤ length pf → length (copy_bytes rd pf m i) ≡ 16 * 1
  unfolding copy_bytes if_true
  copy_length i h = go (is_rule 1 (rd (m + i) 0))
    where
      go : (b : Bool) → length (if_true b (bytes16 kinds.false 0 0 0) (take 16 (drop (16 * i) pf))) ≡ 16
      go true = refl
      go false = length_part pf i h

  copy_word_lem : (i w : ℕ) → word_of (copy_bytes rd pf m i) 0 w ≡ copy_word i w
  unfolding copy_bytes copy_word if_true
  copy_word_lem i w = go (is_rule 1 (rd (m + i) 0))
    where
      go : (b : Bool) → word_of (if_true b (bytes16 kinds.false 0 0 0) (take 16 (drop (16 * i) pf))) 0 w
          ≡ if_true b (if_eq w 0 kinds.false 0) (word_of pf i w)
      go true = bottom_word w
      go false = word_part pf i w

  pub copies_length : (c : ℕ) → 16 * (1 + c) ≤ length pf → length (copies_bytes rd pf m c) ≡ 16 * c
  unfolding copies_bytes
  copies_length zero h = refl
  copies_length (suc c) h =
      length_joined (copies_bytes rd pf m c) (copy_bytes rd pf m (suc c)) c 1 (suc c) (copies_length c (omega arith)) (copy_length (suc c) (omega arith))
      (omega arith)

  -- record i of the copies is that of the proof's record i + 1: the header is not copied
  pub copies_word : (c i w : ℕ) → 16 * (1 + c) ≤ length pf → i < c → word_of (copies_bytes rd pf m c) i w ≡ copy_word (suc i) w
  unfolding copies_bytes
  copies_word zero i w long h = absurd (omega arith)
  copies_word (suc c) i w long h = ⊎_elim last (λ q. first q (copies_word c i w (omega arith) q)) (eq-or-lt_of_le (within h))
    where
      within : i < suc c → i ≤ c
      within h = omega arith

      front : length (copies_bytes rd pf m c) ≡ 16 * c
      front = copies_length c (omega arith)

      last : i ≡ c → word_of (copies_bytes rd pf m c ++ copy_bytes rd pf m (suc c)) i w ≡ copy_word (suc i) w
      last e = rw e (word_behind (copies_bytes rd pf m c) (copy_bytes rd pf m (suc c)) c 0 c w front (omega arith) ∙ copy_word_lem (suc c) w)

      first : i < c → word_of (copies_bytes rd pf m c) i w ≡ copy_word (suc i) w →
          word_of (copies_bytes rd pf m c ++ copy_bytes rd pf m (suc c)) i w ≡ copy_word (suc i) w
      first q e = word_front (copies_bytes rd pf m c) (copy_bytes rd pf m (suc c)) c i w front q ∙ e

-- Blocks.
module _ (rd : Reader) (m n : ℕ) where
  block_length : (i : ℕ) → length (block_bytes rd m n i) ≡ 16 * size rd i
  unfolding block_bytes size if_true
  block_length i = go (is_rule 1 (rd i 0))
    where
      most : ℕ
      most = length (template (rd i 0))

      go : (b : Bool) → length (if_true b (lines_bytes rd (letters_of rd m n i) (template (rd i 0)) most) []) ≡ 16 * if_true b most 0
      go true = lines_length rd (letters_of rd m n i) (template (rd i 0)) most
      go false = refl

  pub blocks_length : (c : ℕ) → length (blocks_bytes rd m n c) ≡ 16 * before rd m c
  unfolding blocks_bytes before
  blocks_length zero = refl
  blocks_length (suc c) =
      length_joined (blocks_bytes rd m n c) (block_bytes rd m n (m + suc c)) (before rd m c) (size rd (m + suc c)) (before rd m c + size rd (m + suc c))
      (blocks_length c) (block_length (m + suc c)) refl

  -- the block of record i ends before that of a later one starts, counted from the first block
  before_block : (i c : ℕ) → m < i → i < m + suc c → before rd m (i - (m + 1)) + size rd i ≤ before rd m c
  unfolding base_of
  before_block i c p q =
      let grows : base_of rd m (suc c) i + size rd i ≤ base_of rd m (suc c) (m + suc c) = base_grows rd m (suc c) i (m + suc c) p q (omega arith) in
      let same : before rd m (m + suc c - (m + 1)) ≡ before rd m c = ap (before rd m) (omega arith) in
      omega arith

  module _ (fits : BlocksFit rd m n) where
    block_word : (i r w : ℕ) → m < i → i ≤ m + n → is_rule 1 (rd i 0) ≡ true → r < length (template (rd i 0)) →
        word_of (block_bytes rd m n i) r w ≡ line_word rd (letters_of rd m n i) (get_or (template (rd i 0)) r no_line) w
    unfolding block_bytes
    block_word i r w p q h less =
        ap (λ (s : List ℕ). word_of s r w)
        (when_true (lines_bytes rd (letters_of rd m n i) (template (rd i 0)) (length (template (rd i 0)))) [] (is_rule 1 (rd i 0)) h)
        ∙ lines_word rd (letters_of rd m n i) (template (rd i 0)) (template_kind (rd i 0)) (λ r less. fits i r p q h less)
        (length (template (rd i 0))) r w less (omega arith)

    -- record r of the block of rule node i, counted from the first block
    pub blocks_word : (c i r w : ℕ) → c ≤ n → m < i → i ≤ m + c → is_rule 1 (rd i 0) ≡ true → r < length (template (rd i 0)) →
        word_of (blocks_bytes rd m n c) (before rd m (i - (m + 1)) + r) w ≡ line_word rd (letters_of rd m n i) (get_or (template (rd i 0)) r no_line) w
    unfolding blocks_bytes
    blocks_word zero i r w few p q h less = absurd (omega arith)
    blocks_word (suc c) i r w few p q h less =
        ⊎_elim last (λ g. first g (blocks_word c i r w (omega arith) p (below g) h less)) (eq-or-lt_of_le q)
      where
        below : i < m + suc c → i ≤ m + c
        below g = omega arith

        last : i ≡ m + suc c →
            word_of (blocks_bytes rd m n c ++ block_bytes rd m n (m + suc c)) (before rd m (i - (m + 1)) + r) w
            ≡ line_word rd (letters_of rd m n i) (get_or (template (rd i 0)) r no_line) w
        last e =
            let same : before rd m (i - (m + 1)) ≡ before rd m c = ap (before rd m) (omega arith) in
            word_behind (blocks_bytes rd m n c) (block_bytes rd m n (m + suc c)) (before rd m c) r (before rd m (i - (m + 1)) + r) w
            (blocks_length c) (omega arith)
            ∙ ap (λ (x : ℕ). word_of (block_bytes rd m n x) r w) (sym e) ∙ block_word i r w p (omega arith) h less

        first : i < m + suc c →
            word_of (blocks_bytes rd m n c) (before rd m (i - (m + 1)) + r) w ≡ line_word rd (letters_of rd m n i) (get_or (template (rd i 0)) r no_line) w →
            word_of (blocks_bytes rd m n c ++ block_bytes rd m n (m + suc c)) (before rd m (i - (m + 1)) + r) w
            ≡ line_word rd (letters_of rd m n i) (get_or (template (rd i 0)) r no_line) w
        first g e =
            let same : size rd i ≡ length (template (rd i 0)) = (size_rule rd i h).0 in
            let ends : before rd m (i - (m + 1)) + size rd i ≤ before rd m c = before_block i c p g in
            word_front (blocks_bytes rd m n c) (block_bytes rd m n (m + suc c)) (before rd m c) (before rd m (i - (m + 1)) + r) w
            (blocks_length c) (omega arith)
            ∙ e
