-- The shape of a kind: what the words of its records are to their trees, a bit for each. So one look-up gives a record's atom and its parts.
use Rattle.std.specs.Prelude.{ℕ, ◌+◌, ◌*◌, ◌/◌, ◌%◌, ◌<◌, ◌≤◌, ◌≡◌, List, Bool, length, get_or}
use Rattle.std.proofs.Math.Path.{refl, ap}
use Rattle.std.proofs.Common.{◌∙◌, arith}
use Rattle.std.proofs.Math.Bool.{true, false}
use Rattle.std.proofs.Math.Dec.{ltb}
use borrow.Author.Tests.{ne_eqb, ltb-true, ltb-false}
use Rattle.reader.specs.Tests.{if_eq, if_lt, if_true}
use Rattle.reader.specs.TestLaws.{eq_yes, eq_no}
use Rattle.reader.specs.Kinds.{Layout, layout, role, is_symbol, is_number}
use Rattle.reader.specs.KindLaws.{row_rule, row_none}
use Rattle.reader.specs.declared.Record.{Record}
use Rattle.reader.specs.Fetched.{word_in}
use Rattle.reader_equality.specs.declared.Key.{Key}
use Rattle.reader_equality.specs.declared.Parts.{Parts}
use Rattle.reader_equality.specs.Keys.{key, is_part, atom_in, part_in, key_in, part_in_table}

-- a test as a bit
unfoldable pub bit : Bool → ℕ
bit b = elim b [ true ↦ 1 | false ↦ 0 ]

-- from the lowest bit on: words 1 to 3 are parts that are no types; word 1 is a number, the record is a symbol; words 1 to 3 are parts
unfoldable pub packed : Layout → Bool → ℕ
packed l symbol =
    bit (is_part false l.first) + 2 * bit (is_part false l.second) + 4 * bit (is_part false l.third) + 8 * bit (is_number l.first) + 16 * bit symbol
    + 32 * bit (is_part true l.first) + 64 * bit (is_part true l.second) + 128 * bit (is_part true l.third)

-- the shape of kind k
unfoldable pub shape_of : ℕ → ℕ
shape_of k = packed (layout k) (is_symbol k)

-- the parts of record i, whose words are x
pub record PartsAre (types : Bool) (i : ℕ) (x : Record) (r : Parts) : Type 0 where
  pub first_is : r.first ≡ part_in types i x 1
  pub second_is : r.second ≡ part_in types i x 2
  pub third_is : r.third ≡ part_in types i x 3

-- A kind past the table, and a rule node's: nothing but words.
module _ (k : ℕ) (past : (k ≡ 0 → ⊥) → 24 ≤ k) where
  no_symbol : is_symbol k ≡ false
  unfolding is_symbol if_eq
  no_symbol = simp (if_eq, ne_eqb k 3 (other 3 (omega arith)), ne_eqb k 7 (other 7 (omega arith)), ne_eqb k 8 (other 8 (omega arith)))
    where
      other : (n : ℕ) → (0 < n) × (n < 24) → k ≡ n → ⊥
      other n h e = omega (arith, past (λ z. omega arith))

  pub shape_none : 0 ≡ shape_of k
  unfolding shape_of packed bit is_part is_number if_lt if_true if_eq
  shape_none = go (ltb k 32) refl
    where
      go : (b : Bool) → ltb k 32 ≡ b → 0 ≡ packed (layout k) (is_symbol k)
      go true e = rw (no_symbol, ← row_none k (ltb-true k 32 e) past) refl
      go false e = rw (no_symbol, ← row_rule k (ltb-false k 32 e)) refl

bit_small : (b : Bool) → bit b < 2
unfolding bit
bit_small true = omega arith
bit_small false = omega arith

-- selection by a bit
bit_if : (b : Bool) (x y : ℕ) → if_eq (bit b) 1 x y ≡ if_true b x y
unfolding bit if_eq if_true
bit_if true x y = refl
bit_if false x y = refl

-- What the code reads of the shape s of kind k.
module _ (k s : ℕ) (es : s ≡ shape_of k) where
  abbrev part : Bool → ℕ → ℕ
  part types w = bit (is_part types (role k w))

  small : (types : Bool) (w : ℕ) → part types w < 2
  small types w = bit_small (is_part types (role k w))

  shape_bits : s ≡
      part false 1 + 2 * part false 2 + 4 * part false 3 + 8 * bit (is_number (role k 1)) + 16 * bit (is_symbol k) + 32 * part true 1 + 64 * part true 2 + 128 * part true 3
  unfolding shape_of packed role if_eq
  shape_bits = es

  number_bit : s / 8 % 2 ≡ bit (is_number (role k 1))
  number_bit = omega (arith, shape_bits, small false 1, small false 2, small false 3, bit_small (is_number (role k 1)))

  symbol_bit : s / 16 % 2 ≡ bit (is_symbol k)
  symbol_bit = omega (arith, shape_bits, small false 1, small false 2, small false 3, bit_small (is_number (role k 1)), bit_small (is_symbol k))

  high_bits : s / 32 ≡ part true 1 + 2 * part true 2 + 4 * part true 3
  high_bits = omega (arith, shape_bits, small false 1, small false 2, small false 3, bit_small (is_number (role k 1)), bit_small (is_symbol k))

  -- the bits of the parts, in p
  part_bits : (types : Bool) (p : ℕ) → p ≡ if_true types (s / 32) s → (p % 2 ≡ part types 1) × (p / 2 % 2 ≡ part types 2) × (p / 4 % 2 ≡ part types 3)
  unfolding if_true
  part_bits true p e =
      let q : p ≡ s / 32 = e in (
        omega (arith, high_bits, small true 1, small true 2, small true 3),
        omega (arith, high_bits, small true 1, small true 2, small true 3),
        omega (arith, high_bits, small true 1, small true 2, small true 3),
      )
  part_bits false p e =
      let q : p ≡ s = e in (
        omega (arith, shape_bits, small false 1),
        omega (arith, shape_bits, small false 1, small false 2),
        omega (arith, shape_bits, small false 1, small false 2, small false 3),
      )

module _ (i : ℕ) (x : Record) (s : ℕ) (es : s ≡ shape_of x.kind) where
  atom_bits : if_eq (s / 16 % 2) 1 i (if_eq (s / 8 % 2) 1 x.a 0) ≡ atom_in i x
  unfolding atom_in
  atom_bits =
      rw (symbol_bit x.kind s es, number_bit x.kind s es)
      (bit_if (is_symbol x.kind) i _ ∙ ap (if_true (is_symbol x.kind) i) (bit_if (is_number (role x.kind 1)) x.a 0))

  -- The ways out of `atom_by`.
  pub atom_symbol : s / 16 % 2 ≡ 1 → i ≡ atom_in i x
  atom_symbol h = eq_yes _ 1 i _ i h refl ∙ atom_bits

  pub atom_other : (s / 16 % 2 ≡ 1 → ⊥) → (r : ℕ) → r ≡ if_eq (s / 8 % 2) 1 x.a 0 → r ≡ atom_in i x
  atom_other h r e = eq_no _ 1 i _ r h e ∙ atom_bits

  -- the parts that `parts_by` puts together: p has the bits, a, b and c are the words
  pub parts_are : (types : Bool) (p a b c f g h : ℕ) → p ≡ if_true types (s / 32) s → a ≡ if_lt x.a i x.a 0 → f ≡ if_eq (p % 2) 1 a 0 →
      b ≡ if_lt x.b i x.b 0 → g ≡ if_eq (p / 2 % 2) 1 b 0 → c ≡ if_lt x.c i x.c 0 → h ≡ if_eq (p / 4 % 2) 1 c 0 →
      PartsAre types i x (record { first = f; second = g; third = h })
  unfolding part_in word_in if_eq
  parts_are types p a b c f g h ep ea ef eb eg ec eh =
      let bits = part_bits x.kind s es types p ep in
      let part : (q w n : ℕ) → q ≡ bit (is_part types (role x.kind w)) → n ≡ if_lt (word_in x w) i (word_in x w) 0 → if_eq q 1 n 0 ≡ part_in types i x w =
      λ q w n eq en. rw (eq, en) (bit_if (is_part types (role x.kind w)) _ 0) in
      record { first_is = ef ∙ part _ 1 a bits.0 ea; second_is = eg ∙ part _ 2 b bits.1 eb; third_is = eh ∙ part _ 3 c bits.2 ec }

-- one kind has one shape
pub shape_kind : (s k l : ℕ) → s ≡ shape_of l → k ≡ l → s ≡ shape_of k
shape_kind s k l e h = rw h e

pub key_shape : (types : Bool) (table : List ℕ) (i : ℕ) (x : Record) (s : ℕ) (k : Key) → s ≡ shape_of x.kind → k ≡ key_in types table i x → s ≡ shape_of k.kind
unfolding key_in
key_shape types table i x s k e h = rw h e

-- The ways out of `key_in_lem`: the entries of the parts, and the key that the code puts together.
module _ (types : Bool) (table : List ℕ) (i : ℕ) (x : Record) (parts : Parts) (are : PartsAre types i x parts) where
  module _ (p : 0 < i) (h : i ≤ length table) where
    pub first_in_table : parts.first < length table
    first_in_table = part_in_table types table i x 1 _ p h are.first_is

    pub second_in_table : parts.second < length table
    second_in_table = part_in_table types table i x 2 _ p h are.second_is

    pub third_in_table : parts.third < length table
    third_in_table = part_in_table types table i x 3 _ p h are.third_is

  pub key_is : (p a b c : ℕ) → p ≡ atom_in i x → a ≡ get_or table parts.first 0 → b ≡ get_or table parts.second 0 → c ≡ get_or table parts.third 0 →
      key x.kind p a b c ≡ key_in types table i x
  unfolding key_in
  key_is p a b c ep ea eb ec = rw (ep, ea, eb, ec, are.first_is, are.second_is, are.third_is) refl
