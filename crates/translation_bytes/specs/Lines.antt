-- The words of a line, and when they fit 32 bits.
use Prim.Native.Nat.{ℕ, zero, suc, ◌+◌, ◌*◌, ◌<◌, ◌≤◌}
use Rattle.std.specs.Prelude.{◌≡◌, List, [], ◌∷◌, ◌++◌, Bool, true, false, eqb, ltb, get_or, length}
use Rattle.std.proofs.Math.Path.{refl}
use Rattle.std.proofs.Common.{◌∙◌, eq-or-lt_of_le, ltb-true}
use Rattle.std.proofs.Math.Logic.{⊎_elim}
use native.Mathlib.Omega.{arith}
use Rattle.reader.specs.Words.{Reader, word_of}
use Rattle.reader.specs.Tests.{every, if_eq}
use Rattle.reader.specs.Kinds.{is_rule}
use Rattle.reader_laws.specs.Scan.{every_head}
use Rattle.translation_rules.specs.Templates.{Line, template, lines_of_start}
use Rattle.translation_rules.specs.Templates.{lines32, lines33, lines34, lines35, lines36, lines37, lines38, lines39}
use Rattle.translation_rules.specs.Templates.{lines40, lines41, lines42, lines43, lines44, lines45, lines46}
use Rattle.translation_rules.specs.Output.{Letters, value, line_word, no_line, letters_of, letters_of_start}
use Rattle.translation_rules.specs.Bytes.{line_bytes, lines_bytes}
use Rattle.translation_bytes.specs.Records.{word_front, word_behind, length_joined, record_word}

-- Kinds.

-- a kind that fits a byte, and so a word
small_kind : Line → Bool
small_kind x = ltb x.kind 256

-- one of two lists of lines with small kinds
either_small : (k a : ℕ) (xs ys : List Line) → every small_kind xs ≡ true → every small_kind ys ≡ true → every small_kind (if_eq k a xs ys) ≡ true
unfolding if_eq
either_small k a xs ys p q = go (eqb k a)
  where
    go : (b : Bool) → every small_kind (elim b as (λ x. List Line) [ true ↦ xs | false ↦ ys ]) ≡ true
    go true = p
    go false = q

-- the templates of the rules name small kinds only
template_small : (k : ℕ) → every small_kind (template k) ≡ true
unfolding template every small_kind
template_small k =
    either_small k 32 lines32 _ refl
    (either_small k 33 lines33 _ refl
    (either_small k 34 lines34 _ refl
    (either_small k 35 lines35 _ refl
    (either_small k 36 lines36 _ refl
    (either_small k 37 lines37 _ refl
    (either_small k 38 lines38 _ refl
    (either_small k 39 lines39 _ refl
    (either_small k 40 lines40 _ refl
    (either_small k 41 lines41 _ refl
    (either_small k 42 lines42 _ refl
    (either_small k 43 lines43 _ refl
    (either_small k 44 lines44 _ refl
    (either_small k 45 lines45 _ refl
    (either_small k 46 lines46 [] refl refl))))))))))))))

start_small : every small_kind lines_of_start ≡ true
unfolding every small_kind
start_small = refl

-- a line past the end has kind 0
kind_at : (xs : List Line) → every small_kind xs ≡ true → (r : ℕ) → (get_or xs r no_line).kind < 4294967296
unfolding small_kind
kind_at [] h r = omega arith
kind_at (x ∷ xs) h zero = let less : x.kind < 256 = ltb-true x.kind 256 (every_head small_kind x xs h).0 in omega arith
kind_at (x ∷ xs) h (suc r) = kind_at xs (every_head small_kind x xs h).1 r

pub template_kind : (k r : ℕ) → (get_or (template k) r no_line).kind < 4294967296
template_kind k r = kind_at (template k) (template_small k) r

pub start_kind : (r : ℕ) → (get_or lines_of_start r no_line).kind < 4294967296
start_kind r = kind_at lines_of_start start_small r

-- Lines.

-- the three cells of a line have values that fit a word
pub record Fits (rd : Reader) (l : Letters) (x : Line) : Type 0 where
  pub first : value rd l x.first < 4294967296
  pub second : value rd l x.second < 4294967296
  pub third : value rd l x.third < 4294967296

-- so do those of every line of the block of every rule node, the proof's records being m + 1 to m + n
abbrev pub BlocksFit : Reader → ℕ → ℕ → Type 0
BlocksFit rd m n = (i r : ℕ) → m < i → i ≤ m + n → is_rule 1 (rd i 0) ≡ true → r < length (template (rd i 0)) →
    Fits rd (letters_of rd m n i) (get_or (template (rd i 0)) r no_line)

-- and those of the start's lines
abbrev pub StartFits : Reader → ℕ → ℕ → ℕ → Type 0
StartFits rd m n root = (r : ℕ) → r < 5 → Fits rd (letters_of_start rd m n root) (get_or lines_of_start r no_line)

module _ (rd : Reader) (l : Letters) where
  -- the bytes of a line read as its words
  line_word_lem : (x : Line) (w : ℕ) → x.kind < 4294967296 → Fits rd l x → word_of (line_bytes rd l x) 0 w ≡ line_word rd l x w
  unfolding line_word
  line_word_lem x w k f = record_word x.kind (value rd l x.first) (value rd l x.second) (value rd l x.third) w k f.first f.second f.third

  module _ (lines : List Line) where
    pub lines_length : (c : ℕ) → length (lines_bytes rd l lines c) ≡ 16 * c
    unfolding lines_bytes
    lines_length zero = refl
    lines_length (suc c) =
        length_joined (lines_bytes rd l lines c) (line_bytes rd l (get_or lines c no_line)) c 1 (suc c) (lines_length c) refl (omega arith)

    module _ (kind : (r : ℕ) → (get_or lines r no_line).kind < 4294967296) (fits : (r : ℕ) → r < length lines → Fits rd l (get_or lines r no_line)) where
      -- record r of the first c lines is line r
      pub lines_word : (c r w : ℕ) → r < c → c ≤ length lines → word_of (lines_bytes rd l lines c) r w ≡ line_word rd l (get_or lines r no_line) w
      unfolding lines_bytes
      lines_word zero r w h most = absurd (omega arith)
      lines_word (suc c) r w h most = ⊎_elim last (λ q. first q (lines_word c r w q (omega arith))) (eq-or-lt_of_le (within h))
        where
          within : r < suc c → r ≤ c
          within h = omega arith

          last : r ≡ c → word_of (lines_bytes rd l lines c ++ line_bytes rd l (get_or lines c no_line)) r w ≡ line_word rd l (get_or lines r no_line) w
          last e =
              rw e
              (word_behind (lines_bytes rd l lines c) (line_bytes rd l (get_or lines c no_line)) c 0 c w (lines_length c) (omega arith)
              ∙ line_word_lem (get_or lines c no_line) w (kind c) (fits c most))

          first : r < c → word_of (lines_bytes rd l lines c) r w ≡ line_word rd l (get_or lines r no_line) w →
              word_of (lines_bytes rd l lines c ++ line_bytes rd l (get_or lines c no_line)) r w ≡ line_word rd l (get_or lines r no_line) w
          first q e = word_front (lines_bytes rd l lines c) (line_bytes rd l (get_or lines c no_line)) c r w (lines_length c) q ∙ e
