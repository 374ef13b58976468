-- What the cells of a template stand for at a node, where a table has the concluding node of each record's block.
use Rattle.std.specs.Prelude.{ℕ, ◌+◌, ◌-◌, ◌<◌, ◌≤◌, ◌≡◌, List, get_or}
use Rattle.std.proofs.Math.Path.{refl}
use Rattle.std.proofs.Common.{◌∙◌, arith}
use borrow.Author.Tests.{ne_eqb, lt-ltb, le-ltb}
use Rattle.reader.specs.Words.{Reader}
use Rattle.reader.specs.Tests.{if_eq, if_lt}
use Rattle.reader.specs.Trees.{lower}
use Rattle.reader.specs.Chains.{parts, premises}
use Rattle.reader_chains.specs.Chains.{item_at, item_items}
use Rattle.translation_rules.specs.Templates.{Cell, none, part, inside, deeper, type_inside, bottom, own, conclusion}
use Rattle.translation_rules.specs.Output.{type_record_by, type_record, Letters, value}
use Rattle.translation_lines.specs.Codes.{cell_of}

-- the letters of the block of node i that starts at `base`
abbrev pub letters_in : Reader → List ℕ → ℕ → ℕ → Letters
letters_in rd table i base = record {
  node = i;
  parts_of = parts rd i;
  premises_of = premises rd i;
  base = base;
  ends = λ x. get_or table x 0;
}

-- the value of the cell of byte c
unfoldable pub value_in : Reader → List ℕ → ℕ → ℕ → ℕ → ℕ
value_in rd table i base c = value rd (letters_in rd table i base) (cell_of c)

-- The ways out of `part_at`, `premise_at`, `type_at`.
pub part_is : (rd : Reader) (i j x r : ℕ) → x ≡ lower rd i 1 → r ≡ item_at rd x j → r ≡ get_or (parts rd i) j 0
unfolding parts
part_is rd i j x r ex er = er ∙ item_items rd j x ∙ rw ex

pub premise_is : (rd : Reader) (i j x r : ℕ) → x ≡ lower rd i 2 → r ≡ item_at rd x j → r ≡ get_or (premises rd i) j 0
unfolding premises
premise_is rd i j x r ex er = er ∙ item_items rd j x ∙ rw ex

-- by the arm of kind c
pub type_as : (c : ℕ) (rd : Reader) (x k r : ℕ) → k ≡ rd x 0 → k ≡ c → r ≡ type_record_by c rd x → r ≡ type_record rd x
unfolding type_record
type_as c rd x k r ek e h = rw (← ek, e) h

-- by the last arm: an application's type is the first of its chain of types
pub type_of_application : (rd : Reader) (x k y r : ℕ) → k ≡ rd x 0 → (k ≡ 7 → ⊥) → (k ≡ 9 → ⊥) → (k ≡ 10 → ⊥) → (k ≡ 11 → ⊥) → (k ≡ 12 → ⊥) →
    (k ≡ 23 → ⊥) → y ≡ rd x 2 → r ≡ rd y 1 → r ≡ type_record rd x
unfolding type_record type_record_by if_eq
type_of_application rd x k y r ek a b c d e f ey er =
    rw (← ek) (simp (if_eq, ne_eqb k 7 a, ne_eqb k 9 b, ne_eqb k 10 c, ne_eqb k 11 d, ne_eqb k 12 e, ne_eqb k 23 f) (rw (← ey) er))

-- The ways out of `value_of`, by the byte.
module _ (rd : Reader) (table : List ℕ) (i base c : ℕ) where
  of_cell : (x : Cell) (r : ℕ) → cell_of c ≡ x → r ≡ value rd (letters_in rd table i base) x → r ≡ value_in rd table i base c
  unfolding value_in
  of_cell x r e h = rw e h

  pub value_none : c < 16 → 0 ≡ value_in rd table i base c
  unfolding cell_of value if_lt
  value_none h = of_cell none 0 (simp (cell_of, if_lt, lt-ltb c 16 h)) refl

  module _ (r : ℕ) where
    pub value_part : 16 ≤ c → c < 32 → r ≡ get_or (parts rd i) (c - 16) 0 → r ≡ value_in rd table i base c
    unfolding cell_of value if_lt
    value_part p h e = of_cell (part (c - 16)) r (simp (cell_of, if_lt, le-ltb c 16 p, lt-ltb c 32 h)) e

    pub value_inside : 32 ≤ c → c < 48 → (x : ℕ) → x ≡ get_or (parts rd i) 0 0 → r ≡ rd x (c - 32) → r ≡ value_in rd table i base c
    unfolding cell_of value if_lt
    value_inside p h x ex e =
        of_cell (inside (c - 32)) r (simp (cell_of, if_lt, le-ltb c 16 (omega arith), le-ltb c 32 p, lt-ltb c 48 h)) (rw (← ex) e)

    pub value_deeper : 48 ≤ c → c < 64 → (x y : ℕ) → x ≡ get_or (parts rd i) 0 0 → y ≡ rd x 1 → r ≡ rd y 1 → r ≡ value_in rd table i base c
    unfolding cell_of value if_lt
    value_deeper p h x y ex ey e =
        of_cell deeper r (simp (cell_of, if_lt, le-ltb c 16 (omega arith), le-ltb c 32 (omega arith), le-ltb c 48 p, lt-ltb c 64 h)) (rw (← ex, ← ey) e)

    pub value_type : 64 ≤ c → c < 80 → (x y : ℕ) → x ≡ get_or (parts rd i) 0 0 → y ≡ rd x 1 → r ≡ type_record rd y → r ≡ value_in rd table i base c
    unfolding cell_of value if_lt
    value_type p h x y ex ey e =
        of_cell type_inside r
        (simp (cell_of, if_lt, le-ltb c 16 (omega arith), le-ltb c 32 (omega arith), le-ltb c 48 (omega arith), le-ltb c 64 p, lt-ltb c 80 h))
        (rw (← ex, ← ey) e)

    past_types : 80 ≤ c → cell_of c ≡ if_lt c 96 bottom (if_lt c 128 (conclusion (c - 96)) (own (c - 128)))
    unfolding cell_of if_lt
    past_types h =
        simp (cell_of, if_lt, le-ltb c 16 (omega arith), le-ltb c 32 (omega arith), le-ltb c 48 (omega arith), le-ltb c 64 (omega arith), le-ltb c 80 h)

    pub value_bottom : 80 ≤ c → c < 96 → r ≡ i → r ≡ value_in rd table i base c
    unfolding value if_lt
    value_bottom p h e = of_cell bottom r (rw (past_types p) (simp (if_lt, lt-ltb c 96 h))) e

    pub value_conclusion : 96 ≤ c → c < 128 → (x : ℕ) → x ≡ get_or (premises rd i) (c - 96) 0 → r ≡ get_or table x 0 → r ≡ value_in rd table i base c
    unfolding value if_lt
    value_conclusion p h x ex e =
        of_cell (conclusion (c - 96)) r (rw (past_types (omega arith)) (simp (if_lt, le-ltb c 96 p, lt-ltb c 128 h))) (rw (← ex) e)

    pub value_own : 128 ≤ c → r ≡ base + (c - 128) → r ≡ value_in rd table i base c
    unfolding value if_lt
    value_own p e = of_cell (own (c - 128)) r (rw (past_types (omega arith)) (simp (if_lt, le-ltb c 96 (omega arith), le-ltb c 128 p))) e
