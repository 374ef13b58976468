-- Words of records where bytes are put one after the other: every law above this file speaks of records and of no byte.
use Rattle.std.specs.Prelude.{ℕ, zero, suc, ◌+◌, ◌*◌, ◌-◌, ◌/◌, ◌%◌, ◌<◌, ◌≤◌, ◌≡◌, refl, List, ◌++◌, Bool, true, false, ltb, length, get_or, take, drop}
use Rattle.std.proofs.Common.{sym, ap, ◌∙◌, length-append, length-drop, length-take-le, get_or-append-add, get_or-take, get_or-drop, arith, ltb-true}
use Rattle.std.proofs.Math.ListN.{get_or-append}
use Rattle.std.proofs.Math.Nat.{div-div-eq-div-mul}
use Rattle.reader.specs.Words.{word_from, word_of}
use Rattle.reader.specs.WordLaws.{word_none}
use Rattle.reader.specs.Tests.{if_eq}
use Rattle.reader_laws.specs.Scan.{when_different}
use Rattle.translation_rules.specs.Bytes.{bytes16}

-- Words by their place in the bytes.

-- a word that ends within the first of two lists is that list's
from_front : (a b : List ℕ) (at : ℕ) → at + 3 < length a → word_from (a ++ b) at ≡ word_from a at
unfolding word_from
from_front a b at h =
    rw (
      get_or-append a b 0 at (omega arith),
      get_or-append a b 0 (at + 1) (omega arith),
      get_or-append a b 0 (at + 2) (omega arith),
      get_or-append a b 0 (at + 3) h,
    )

byte_behind : (a b : List ℕ) (at j : ℕ) → at ≡ length a + j → get_or (a ++ b) at 0 ≡ get_or b j 0
byte_behind a b at j e = rw e (get_or-append-add a b j 0)

-- one that starts after it is the second list's
from_behind : (a b : List ℕ) (at j : ℕ) → at ≡ length a + j → word_from (a ++ b) at ≡ word_from b j
unfolding word_from
from_behind a b at j e =
    rw (
      byte_behind a b at j e,
      byte_behind a b (at + 1) (j + 1) (omega arith),
      byte_behind a b (at + 2) (j + 2) (omega arith),
      byte_behind a b (at + 3) (j + 3) (omega arith),
    )

byte_part : (s : List ℕ) (i at j : ℕ) → j < 16 → at ≡ 16 * i + j → get_or (take 16 (drop (16 * i) s)) j 0 ≡ get_or s at 0
byte_part s i at j h e = get_or-take 16 (drop (16 * i) s) j 0 h ∙ get_or-drop (16 * i) s j 0 ∙ ap (λ (k : ℕ). get_or s k 0) (sym e)

-- a word of sixteen bytes that are cut out
from_part : (s : List ℕ) (i at j : ℕ) → j + 3 < 16 → at ≡ 16 * i + j → word_from (take 16 (drop (16 * i) s)) j ≡ word_from s at
unfolding word_from
from_part s i at j h e =
    rw (
      byte_part s i at j (omega arith) e,
      byte_part s i (at + 1) (j + 1) (omega arith) (omega arith),
      byte_part s i (at + 2) (j + 2) (omega arith) (omega arith),
      byte_part s i (at + 3) (j + 3) h (omega arith),
    )

-- Words by their record.

-- two records agree where their words 0 to 3 do
by_word : (s t : List ℕ) (i j w : ℕ) → (w < 4 → word_from s (16 * i + 4 * w) ≡ word_from t (16 * j + 4 * w)) → word_of s i w ≡ word_of t j w
unfolding word_of
by_word s t i j w h = go (ltb w 4) refl
  where
    go : (b : Bool) → ltb w 4 ≡ b →
        ◌≡◌ {A = ℕ} (elim b [ true ↦ word_from s (16 * i + 4 * w) | false ↦ 0 ]) (elim b [ true ↦ word_from t (16 * j + 4 * w) | false ↦ 0 ])
    go true e = h (ltb-true w 4 e)
    go false e = refl

-- a record within the first of two lists is that list's
pub word_front : (a b : List ℕ) (c i w : ℕ) → length a ≡ 16 * c → i < c → word_of (a ++ b) i w ≡ word_of a i w
word_front a b c i w l h = by_word (a ++ b) a i i w (λ p. from_front a b (16 * i + 4 * w) (omega arith))

-- one after it is the second list's
pub word_behind : (a b : List ℕ) (c i j w : ℕ) → length a ≡ 16 * c → j ≡ c + i → word_of (a ++ b) j w ≡ word_of b i w
word_behind a b c i j w l e = by_word (a ++ b) b j i w (λ p. from_behind a b (16 * j + 4 * w) (16 * i + 4 * w) (omega arith))

-- record i of a file, cut out
pub word_part : (s : List ℕ) (i w : ℕ) → word_of (take 16 (drop (16 * i) s)) 0 w ≡ word_of s i w
word_part s i w =
    by_word (take 16 (drop (16 * i) s)) s 0 i w (λ p. from_part s i (16 * i + 4 * w) (16 * 0 + 4 * w) (omega arith) (omega arith))

pub length_part : (s : List ℕ) (i : ℕ) → 16 * i + 16 ≤ length s → length (take 16 (drop (16 * i) s)) ≡ 16
length_part s i h =
    let rest : length (drop (16 * i) s) ≡ length s - 16 * i = length-drop (16 * i) s in
    length-take-le 16 (drop (16 * i) s) (omega arith)

-- two lists of whole records
pub length_joined : (a b : List ℕ) (c d e : ℕ) → length a ≡ 16 * c → length b ≡ 16 * d → e ≡ c + d → length (a ++ b) ≡ 16 * e
length_joined a b c d e p q r = length-append a b ∙ omega arith

-- A record that is written.

-- the bytes of a number below 2³² give the number back; by repeated division, which `omega` follows
number_again : (v : ℕ) → v < 4294967296 →
    v % 256 + 256 * (v / 256 % 256) + 65536 * (v / 256 / 256 % 256) + 16777216 * (v / 256 / 256 / 256 % 256) ≡ v
number_again v h = omega arith

number_back : (v : ℕ) → v < 4294967296 →
    v % 256 + 256 * (v / 256 % 256) + 65536 * (v / 65536 % 256) + 16777216 * (v / 16777216 % 256) ≡ v
number_back v h =
    let two : v / 256 / 256 ≡ v / 65536 = div-div-eq-div-mul v 256 256 in
    let three : v / 256 / 256 / 256 ≡ v / 16777216 = ap (λ (x : ℕ). x / 256) two ∙ div-div-eq-div-mul v 65536 256 in
    rw (← three, ← two) (number_again v h)

-- a record has no word past the fourth
no_word : (k a b c w : ℕ) → 4 ≤ w → if_eq w 0 k (if_eq w 1 a (if_eq w 2 b (if_eq w 3 c 0))) ≡ 0
no_word k a b c w h =
    when_different k (if_eq w 1 a (if_eq w 2 b (if_eq w 3 c 0))) w 0 (λ e. omega arith)
    ∙ when_different a (if_eq w 2 b (if_eq w 3 c 0)) w 1 (λ e. omega arith) ∙ when_different b (if_eq w 3 c 0) w 2 (λ e. omega arith)
    ∙ when_different c 0 w 3 (λ e. omega arith)

-- the words of a record
pub record_word : (k a b c w : ℕ) → k < 4294967296 → a < 4294967296 → b < 4294967296 → c < 4294967296 →
    word_of (bytes16 k a b c) 0 w ≡ if_eq w 0 k (if_eq w 1 a (if_eq w 2 b (if_eq w 3 c 0)))
unfolding word_of word_from if_eq
record_word k a b c zero hk ha hb hc = number_back k hk
record_word k a b c (suc zero) hk ha hb hc = number_back a ha
record_word k a b c (suc (suc zero)) hk ha hb hc = number_back b hb
record_word k a b c (suc (suc (suc zero))) hk ha hb hc = number_back c hc
record_word k a b c (suc (suc (suc (suc w)))) hk ha hb hc =
    let more : 4 ≤ suc (suc (suc (suc w))) = omega arith in
    word_none (bytes16 k a b c) 0 (suc (suc (suc (suc w)))) more ∙ sym (no_word k a b c (suc (suc (suc (suc w)))) more)
