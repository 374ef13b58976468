-- Laws of words: past the end of a file, and how large they are.
use Rattle.std.specs.Prelude.{ℕ, ◌+◌, ◌*◌, ◌-◌, ◌<◌, ◌≤◌, ◌≡◌, refl, Bool, true, false, ltb, List, length, get_or}
use Rattle.std.proofs.Common.{sym, lt-ltb, le-ltb, arith}
use Rattle.std.proofs.Math.ListN.{get_or-eq_default}
use Rattle.reader.specs.Tests.{if_lt}
use Rattle.reader.specs.Words.{le32, word_from, word_of, through, word}

-- past the end of a table
pub past_end : (s : List ℕ) (k : ℕ) → length s ≤ k → 0 ≡ get_or s k 0
past_end s k h = sym (get_or-eq_default s 0 h)

-- a byte past the end
past : (s : List ℕ) (k : ℕ) → length s ≤ k → get_or s k 0 ≡ 0
past s k h = get_or-eq_default s 0 h

from_past : (s : List ℕ) (at : ℕ) → length s ≤ at → word_from s at ≡ 0
unfolding word_from
from_past s at h = rw (past s at h, past s (at + 1) (omega arith), past s (at + 2) (omega arith), past s (at + 3) (omega arith))

pub word_is : (s : List ℕ) (i w : ℕ) → w < 4 → word_of s i w ≡ word_from s (16 * i + 4 * w)
unfolding word_of
word_is s i w h = simp (word_of, lt-ltb w 4 h)

pub word_none : (s : List ℕ) (i w : ℕ) → 4 ≤ w → word_of s i w ≡ 0
unfolding word_of
word_none s i w h = simp (word_of, le-ltb w 4 h)

-- a record past the end reads as 0
pub word_past : (s : List ℕ) (i w : ℕ) → length s ≤ 16 * i → word_of s i w ≡ 0
unfolding word_of
word_past s i w h = go (ltb w 4)
  where
    go : (b : Bool) → ◌≡◌ {A = ℕ} (elim b [ true ↦ word_from s (16 * i + 4 * w) | false ↦ 0 ]) 0
    go true = from_past s (16 * i + 4 * w) (omega arith)
    go false = refl

-- a word of two files of bytes
bytes_small : (s : List ℕ) (i w : ℕ) → ((k : ℕ) → get_or s k 0 < 256) → word_of s i w < 4294967296
unfolding word_of word_from
bytes_small s i w h = go (ltb w 4)
  where
    at : ℕ
    at = 16 * i + 4 * w

    go : (b : Bool) → elim b as (λ x. ℕ) [ true ↦ le32 (get_or s at 0) (get_or s (at + 1) 0) (get_or s (at + 2) 0) (get_or s (at + 3) 0) | false ↦ 0 ] < 4294967296
    go true = omega (arith, h at, h (at + 1), h (at + 2), h (at + 3))
    go false = omega arith

pub word_small : (obligation second : List ℕ) (m i w : ℕ) → ((k : ℕ) → get_or obligation k 0 < 256) → ((k : ℕ) → get_or second k 0 < 256) →
    word obligation second m i w < 4294967296
unfolding word through if_lt
word_small obligation second m i w h g = go (ltb m i)
  where
    go : (b : Bool) → elim b as (λ x. ℕ) [ true ↦ word_of second (i - m) w | false ↦ word_of obligation i w ] < 4294967296
    go true = bytes_small second (i - m) w g
    go false = bytes_small obligation i w h
