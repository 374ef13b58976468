-- One record's four words, and their laws.
use Rattle.std.specs.Prelude.{ℕ, zero, suc, ◌+◌, ◌*◌, ◌-◌, ◌<◌, ◌≤◌, ◌≡◌, List}
use Rattle.std.proofs.Common.{sym, ap, ◌∙◌, lit<, arith, ne_eqb}
use Rattle.reader.specs.Tests.{if_eq}
use Rattle.reader.specs.Words.{Reader, word_from, word_of, through}
use Rattle.reader.specs.WordLaws.{word_is}
use Rattle.reader.specs.TestLaws.{lt_yes, lt_no}
use Rattle.reader.specs.declared.Record.{Record}

-- "records of four 32-bit little-endian words k, a, b, c": r has those of record i
pub record RecordIs (rd : Reader) (i : ℕ) (r : Record) : Type 0 where
  pub kind_is : r.kind ≡ rd i 0
  pub a_is : r.a ≡ rd i 1
  pub b_is : r.b ≡ rd i 2
  pub c_is : r.c ≡ rd i 3

-- word w of such a record
unfoldable pub word_in : Record → ℕ → ℕ
word_in r w = if_eq w 0 r.kind (if_eq w 1 r.a (if_eq w 2 r.b (if_eq w 3 r.c 0)))

pub word_in_lem : (rd : Reader) (i : ℕ) (r : Record) → RecordIs rd i r → (w : ℕ) → w < 4 → word_in r w ≡ rd i w
unfolding word_in if_eq
word_in_lem rd i r e zero h = e.kind_is
word_in_lem rd i r e (suc zero) h = e.a_is
word_in_lem rd i r e (suc (suc zero)) h = e.b_is
word_in_lem rd i r e (suc (suc (suc zero))) h = e.c_is
word_in_lem rd i r e (suc (suc (suc (suc w)))) h = absurd (omega arith)

-- past its words
pub word_none : (r : Record) (w : ℕ) → 4 ≤ w → 0 ≡ word_in r w
unfolding word_in if_eq
word_none r w h = simp (word_in, if_eq, ne_eqb w 0 (λ e. omega arith), ne_eqb w 1 (λ e. omega arith), ne_eqb w 2 (λ e. omega arith), ne_eqb w 3 (λ e. omega arith))

-- records up to m are the first reader's, those past m the second's
module _ (first second : Reader) (m i : ℕ) (r : Record) where
  pub of_second : m < i → RecordIs second (i - m) r → RecordIs (through first second m) i r
  unfolding through
  of_second h e = record { kind_is = lt_yes m i _ _ _ h e.kind_is; a_is = lt_yes m i _ _ _ h e.a_is; b_is = lt_yes m i _ _ _ h e.b_is; c_is = lt_yes m i _ _ _ h e.c_is }

  pub of_first : i ≤ m → RecordIs first i r → RecordIs (through first second m) i r
  unfolding through
  of_first h e = record { kind_is = lt_no m i _ _ _ h e.kind_is; a_is = lt_no m i _ _ _ h e.a_is; b_is = lt_no m i _ _ _ h e.b_is; c_is = lt_no m i _ _ _ h e.c_is }

-- the record that the code puts together of one file's bytes
pub whole_is : (s : List ℕ) (i k a b c : ℕ) → k ≡ word_from s (16 * i) → a ≡ word_from s (16 * i + 4) → b ≡ word_from s (16 * i + 8) → c ≡ word_from s (16 * i + 12) →
    RecordIs (word_of s) i (record { kind = k; a = a; b = b; c = c })
whole_is s i k a b c ek ea eb ec =
    let zero : 16 * i ≡ 16 * i + 4 * 0 = omega arith in
    record { kind_is = ek ∙ ap (word_from s) zero ∙ sym (word_is s i 0 (lit< tt)); a_is = ea ∙ sym (word_is s i 1 (lit< tt)); b_is = eb ∙ sym (word_is s i 2 (lit< tt)); c_is = ec ∙ sym (word_is s i 3 (lit< tt)) }
