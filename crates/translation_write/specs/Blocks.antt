-- The block of one node, line after line.
use Rattle.std.specs.Prelude.{ℕ, zero, suc, ◌+◌, ◌*◌, ◌-◌, ◌/◌, ◌%◌, ◌<◌, ◌≤◌, ◌≡◌, refl, List, true, get_or, length}
use Rattle.std.proofs.Math.Path.{ap}
use Rattle.std.proofs.Common.{◌∙◌, length-append, arith}
use Rattle.std.proofs.Math.Numerals.{add-one}
use Rattle.reader.specs.Words.{Reader}
use Rattle.reader.specs.Kinds.{modes, is_rule}
use Rattle.translation_rules.specs.Templates.{Line, template}
use Rattle.translation_rules.specs.Output.{Letters, no_line}
use Rattle.translation_rules.specs.Bytes.{bytes16, line_bytes, lines_bytes}
use Rattle.translation_lines.specs.Codes.{line_of}
use Rattle.translation_values.specs.Values.{letters_in, value_in}
use Rattle.translation_write.specs.Put.{put, put_nothing, put_put}

-- The block of node i that starts at record `base` has its place in the buffer, where record m + 1 is the first after the header.
pub record Place (rd : Reader) (m i base : ℕ) (buffer : List ℕ) : Type 0 where
  pub rule : is_rule modes.proof (rd i 0) ≡ true
  pub after : m ≤ base
  pub small : base < 4294967296
  pub room : 16 * (base - m + length (template (rd i 0))) ≤ length buffer

-- in a buffer of the same length
pub place_kept : (rd : Reader) (m i base : ℕ) (old now : List ℕ) → length now ≡ length old → Place rd m i base old → Place rd m i base now
place_kept rd m i base old now e p = record { rule = p.rule; after = p.after; small = p.small; room = rw e p.room }

-- the bytes of line r, and of the first r lines
unfoldable pub block_line : Reader → List ℕ → ℕ → ℕ → ℕ → List ℕ
block_line rd table i base r = line_bytes rd (letters_in rd table i base) (get_or (template (rd i 0)) r no_line)

unfoldable pub block_lines : Reader → List ℕ → ℕ → ℕ → ℕ → List ℕ
block_lines rd table i base r = lines_bytes rd (letters_in rd table i base) (template (rd i 0)) r

pub length_lines : (rd : Reader) (l : Letters) (lines : List Line) (r : ℕ) → length (lines_bytes rd l lines r) ≡ 16 * r
unfolding lines_bytes
length_lines rd l lines zero = refl
length_lines rd l lines (suc r) =
    length-append (lines_bytes rd l lines r) (line_bytes rd l (get_or lines r no_line)) ∙ omega (arith, length_lines rd l lines r)

-- what `lines_of` returns for the kind that was read
pub count_is : (j k count : ℕ) → k ≡ j → count ≡ length (template k) → count ≡ length (template j)
count_is j k count ek e = e ∙ ap (λ (x : ℕ). length (template x)) ek

module _ (rd : Reader) (table : List ℕ) (i base : ℕ) where
  -- The way out of `put_line`.
  pub line_put : (k v r first second third at : ℕ) (old l : List ℕ) → k ≡ rd i 0 → line_of v ≡ get_or (template k) r no_line →
      first ≡ value_in rd table i base (v / 65536 % 256) → second ≡ value_in rd table i base (v / 256 % 256) → third ≡ value_in rd table i base (v % 256) →
      l ≡ put old at (bytes16 (v / 16777216) first second third) → l ≡ put old at (block_line rd table i base r)
  unfolding line_of value_in block_line
  line_put k v r first second third at old l ek ev e1 e2 e3 e =
      e
      ∙ ap (put old at)
      (rw (e1, e2, e3) (ap (line_bytes rd (letters_in rd table i base)) ev ∙ ap (λ (x : ℕ). line_bytes rd (letters_in rd table i base) (get_or (template x) r no_line)) ek))

  -- The loop of `put_block`.
  pub lines_none : (old : List ℕ) (at : ℕ) → old ≡ put old at (block_lines rd table i base 0)
  unfolding lines_bytes block_lines
  lines_none old at = put_nothing old at

  pub lines_more : (old l now : List ℕ) (at r : ℕ) → 16 * (at + r) + 16 ≤ length old → l ≡ put old (16 * at) (block_lines rd table i base r) →
      now ≡ put l (16 * (at + r)) (block_line rd table i base r) → now ≡ put old (16 * at) (block_lines rd table i base (r + 1))
  unfolding lines_bytes block_line block_lines
  lines_more old l now at r room e e1 =
      e1
      ∙ rw (e, add-one r)
      (put_put old (16 * at) (block_lines rd table i base r) (block_line rd table i base r) (16 * (at + r))
      (omega (arith, length_lines rd (letters_in rd table i base) (template (rd i 0)) r)) room)

  pub lines_end : (old l : List ℕ) (at r n : ℕ) → r ≤ n → n ≤ r → n ≡ length (template (rd i 0)) → l ≡ put old at (block_lines rd table i base r) →
      l ≡ put old at (block_lines rd table i base (length (template (rd i 0))))
  lines_end old l at r n p q en e =
      let same : r ≡ length (template (rd i 0)) = omega arith in e ∙ ap (λ (x : ℕ). put old at (block_lines rd table i base x)) same
