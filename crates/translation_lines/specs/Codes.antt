-- The templates as the code has them: a line is one number, its kind and its three cells a byte each, from the highest byte on.
use Rattle.std.specs.Prelude.{ℕ, ◌+◌, ◌*◌, ◌-◌, ◌/◌, ◌%◌, ◌<◌, ◌≤◌, ◌≡◌, refl, List, [], ◌∷◌, ◌++◌, map, Bool, true, false, eqb, get_or, length, take, drop}
use Rattle.std.proofs.Common.{sym, ap, ◌∙◌, get_or-take, get_or-drop, arith, eqb-true}
use Rattle.std.proofs.Math.ListN.{get_or-map}
use Rattle.std.proofs.lemmas.Bool.{eqb-false}
use Rattle.reader.specs.Tests.{if_eq, if_lt}
use Rattle.reader.specs.Kinds.{modes, is_rule}
use Rattle.reader_laws.specs.Scan.{between_parts}
use Rattle.translation_rules.specs.Templates.{Cell, none, part, inside, deeper, type_inside, bottom, own, conclusion, Line, template}
use Rattle.translation_rules.specs.Templates.{lines32, lines33, lines34, lines35, lines36, lines37, lines38, lines39}
use Rattle.translation_rules.specs.Templates.{lines40, lines41, lines42, lines43, lines44, lines45, lines46}
use Rattle.translation_rules.specs.Output.{no_line}

-- the cell that a byte stands for
unfoldable pub cell_of : ℕ → Cell
cell_of c =
    if_lt c 16 none
    (if_lt c 32 (part (c - 16))
    (if_lt c 48 (inside (c - 32))
    (if_lt c 64 deeper (if_lt c 80 type_inside (if_lt c 96 bottom (if_lt c 128 (conclusion (c - 96)) (own (c - 128))))))))

-- the line that a number stands for
unfoldable pub line_of : ℕ → Line
line_of v = record {
  kind = v / 16777216;
  first = cell_of (v / 65536 % 256);
  second = cell_of (v / 256 % 256);
  third = cell_of (v % 256);
}

-- the byte of a cell, and the number of a line
abbrev byte_of : Cell → ℕ
byte_of none = 0
byte_of (part j) = 16 + j
byte_of (inside w) = 32 + w
byte_of deeper = 48
byte_of type_inside = 64
byte_of bottom = 80
byte_of (conclusion j) = 96 + j
byte_of (own r) = 128 + r

abbrev number_of : Line → ℕ
number_of x = 16777216 * x.kind + 65536 * byte_of x.first + 256 * byte_of x.second + byte_of x.third

-- the lines of all templates, and which of them a template has: those from `start` on, `count` in number
abbrev all_lines : List Line
all_lines =
    lines32
    ++ (lines33
    ++ (lines34
    ++ (lines35
    ++ (lines36
    ++ (lines37
    ++ (lines38 ++ (lines39 ++ (lines40 ++ (lines41 ++ (lines42 ++ (lines43 ++ (lines44 ++ (lines45 ++ lines46)))))))))))))

abbrev numbers : List ℕ
numbers = map number_of all_lines

abbrev starts : List ℕ
starts = 0 ∷ 1 ∷ 8 ∷ 14 ∷ 20 ∷ 37 ∷ 47 ∷ 57 ∷ 72 ∷ 88 ∷ 102 ∷ 123 ∷ 141 ∷ 150 ∷ 155 ∷ []

abbrev counts : List ℕ
counts = map length (lines32 ∷ lines33 ∷ lines34 ∷ lines35 ∷ lines36 ∷ lines37 ∷ lines38 ∷ lines39 ∷ lines40 ∷ lines41 ∷ lines42 ∷ lines43 ∷ lines44 ∷ lines45 ∷ lines46 ∷ [])

abbrev pub start : ℕ → ℕ
start k = get_or starts (k - 32) 0

abbrev pub count : ℕ → ℕ
count k = get_or counts (k - 32) 0

-- every number stands for its line
numbers_lines : map line_of numbers ≡ all_lines
unfolding line_of cell_of if_lt
numbers_lines = refl

number_line : (at : ℕ) → line_of (get_or numbers at 0) ≡ get_or all_lines at no_line
unfolding line_of cell_of if_lt
number_line at = sym (get_or-map line_of numbers at 0) ∙ ap (λ (l : List Line). get_or l at no_line) numbers_lines

-- lines xs are those of kind k
record Has (k : ℕ) (xs : List Line) : Type 0 where
  these : take (count k) (drop (start k) all_lines) ≡ xs
  many : count k ≡ length xs
  within : start k + count k ≤ 172

-- the template of a kind from a on: that of a, or one of those after it
has_from : (k a : ℕ) (xs ys : List Line) → Has a xs → a ≤ k → (a + 1 ≤ k → Has k ys) → Has k (if_eq k a xs ys)
unfolding if_eq
has_from k a xs ys here low rest = go (eqb k a) refl
  where
    go : (b : Bool) → eqb k a ≡ b → Has k (elim b as (λ x. List Line) [ true ↦ xs | false ↦ ys ])
    go true e = rw (eqb-true k a e) here
    go false e = let differ : k ≡ a → ⊥ = eqb-false k a e in rest (omega arith)

template_has : (k : ℕ) → 32 ≤ k → k ≤ 46 → Has k (template k)
unfolding template
template_has k h most =
    has_from k 32 lines32 _ (record { these = refl; many = refl; within = omega arith }) h λ h.
    has_from k 33 lines33 _ (record { these = refl; many = refl; within = omega arith }) h λ h.
    has_from k 34 lines34 _ (record { these = refl; many = refl; within = omega arith }) h λ h.
    has_from k 35 lines35 _ (record { these = refl; many = refl; within = omega arith }) h λ h.
    has_from k 36 lines36 _ (record { these = refl; many = refl; within = omega arith }) h λ h.
    has_from k 37 lines37 _ (record { these = refl; many = refl; within = omega arith }) h λ h.
    has_from k 38 lines38 _ (record { these = refl; many = refl; within = omega arith }) h λ h.
    has_from k 39 lines39 _ (record { these = refl; many = refl; within = omega arith }) h λ h.
    has_from k 40 lines40 _ (record { these = refl; many = refl; within = omega arith }) h λ h.
    has_from k 41 lines41 _ (record { these = refl; many = refl; within = omega arith }) h λ h.
    has_from k 42 lines42 _ (record { these = refl; many = refl; within = omega arith }) h λ h.
    has_from k 43 lines43 _ (record { these = refl; many = refl; within = omega arith }) h λ h.
    has_from k 44 lines44 _ (record { these = refl; many = refl; within = omega arith }) h λ h.
    has_from k 45 lines45 _ (record { these = refl; many = refl; within = omega arith }) h λ h.
    has_from k 46 lines46 _ (record { these = refl; many = refl; within = omega arith }) h λ h.
    absurd (omega arith)

-- Rule kinds of a proof, and the lines of their templates.
module _ (k : ℕ) (rule : is_rule modes.proof k ≡ true) where
  range : (32 ≤ k) × (k ≤ 46)
  unfolding is_rule if_eq
  range = between_parts 32 46 k rule

  pub first_rule : 32 ≤ k
  first_rule = range.0

  pub last_rule : k - 32 < 15
  last_rule = omega (arith, range)

  has : Has k (template k)
  has = template_has k range.0 range.1

  -- the ways out of `lines_of` and `line_at`
  pub lines_many : count k ≡ length (template k)
  lines_many = has.many

  pub line_within : (r : ℕ) → r < length (template k) → start k + r < 172
  line_within r h = omega (arith, has.many, has.within)

  pub line_is : (r : ℕ) → r < length (template k) → line_of (get_or numbers (start k + r) 0) ≡ get_or (template k) r no_line
  line_is r h =
      let below : r < count k = omega (arith, has.many) in
      number_line (start k + r)
      ∙ sym (get_or-drop (start k) all_lines r no_line) ∙ sym (get_or-take (count k) (drop (start k) all_lines) r no_line below)
      ∙ ap (λ (l : List Line). get_or l r no_line) has.these
