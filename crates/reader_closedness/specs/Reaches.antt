-- The table of reaches, and the ways out of the code that fills and reads it.
use Rattle.std.specs.Prelude.{ℕ, ◌+◌, ◌*◌, ◌-◌, ◌/◌, ◌%◌, ◌<◌, ◌≤◌, ◌≡◌, List, Bool, eqb, ltb, leb, length, get_or, set}
use Rattle.std.proofs.Math.Path.{refl}
use Rattle.std.proofs.Common.{sym, ◌∙◌, get_or-set_same, get_or-set_other, arith}
use Rattle.std.proofs.Math.Bool.{true, false}
use borrow.Author.Tests.{ltb-true, ltb-false, eq-eqb, ne_eqb, lt-ltb, le-ltb}
use Rattle.reader.specs.Words.{Reader}
use Rattle.reader.specs.Tests.{if_eq, if_lt, if_true}
use Rattle.reader.specs.Kinds.{role, is_number, is_symbol}
use Rattle.reader.specs.Trees.{child, atom, tree}
use Rattle.reader.specs.TreeLaws.{tree_zero, tree_step_lem, child_below}
use Rattle.reader.specs.Variables.{binders, indices_below, types_below}
use Rattle.reader_chains.specs.Shapes.{atom_first}
use Rattle.reader.specs.declared.Record.{Record}
use Rattle.reader.specs.Fetched.{RecordIs}
use Rattle.reader_equality.specs.Keys.{part_in, part_in_lem, part_child}
use Rattle.reader_closedness.specs.Reach.{larger, variable, crossed, own_reach, reach, indices_reach, types_reach}

-- an entry of a type variable's reach
unfoldable pub is_odd : ℕ → Bool
is_odd e = eqb (e % 2) 1

-- what entry e of the table is
unfoldable pub entry_reach : Reader → ℕ → ℕ
entry_reach rd e = reach (is_odd e) (tree rd (e / 2))

-- the table has the first n entries
pub record Reached (rd : Reader) (reaches : List ℕ) (n : ℕ) : Type 0 where
  pub holds : (e : ℕ) → e < n → get_or reaches e 0 ≡ entry_reach rd e

-- the entry of record i
unfoldable pub entry_of : Bool → ℕ → ℕ
entry_of types i = if_true types (2 * i + 1) (2 * i)

-- The ways out of the small functions.
module _ (a b : ℕ) where
  pub larger_second : a < b → b ≡ larger a b
  unfolding larger if_lt
  larger_second h = simp (larger, if_lt, lt-ltb a b h)

  pub larger_first : b ≤ a → a ≡ larger a b
  unfolding larger if_lt
  larger_first h = simp (larger, if_lt, le-ltb a b h)

module _ (types : Bool) (k y : ℕ) where
  pub under_type : types ≡ true → y ≡ y - crossed types k
  unfolding crossed if_true
  under_type h = simp (crossed, if_true, h) (omega arith)

  pub under_none : y ≡ 0 → 0 ≡ y - crossed types k
  under_none h = omega arith

  module _ (index : types ≡ false) where
    pub under_other : (k ≡ 19 → ⊥) → y ≡ y - crossed types k
    unfolding crossed binders if_true
    under_other h = simp (crossed, binders, if_true, index, ne_eqb k 19 h) (omega arith)

    pub under_binder : k ≡ 19 → y - 1 ≡ y - crossed types k
    unfolding crossed binders if_true
    under_binder h = simp (crossed, binders, if_true, index, eq-eqb k 19 h)

pub variable_type : (types : Bool) → types ≡ true → 6 ≡ variable types
unfolding variable if_true
variable_type types h = rw h refl

pub variable_index : (types : Bool) → types ≡ false → 9 ≡ variable types
unfolding variable if_true
variable_index types h = rw h refl

-- The ways out of `own_reach`.
module _ (rd : Reader) (types : Bool) (i k v : ℕ) (ev : v ≡ variable types) where
  pub own_none : (k ≡ v → ⊥) → 0 ≡ own_reach types k (atom rd i)
  unfolding own_reach if_eq
  own_none h = simp (own_reach, if_eq, ← ev, ne_eqb k v h)

  pub own_variable : k ≡ rd i 0 → k ≡ v → (a : ℕ) → a ≡ rd i 1 → a + 1 ≡ own_reach types k (atom rd i)
  unfolding own_reach variable role is_symbol is_number if_eq if_lt if_true
  own_variable ek h a e = simp (own_reach, if_eq, ← ev, eq-eqb k v h, first types (sym ek ∙ h ∙ ev), ← e)
    where
      first : (t : Bool) → rd i 0 ≡ variable t → atom rd i ≡ rd i 1
      first true q = atom_first rd i 6 q refl refl
      first false q = atom_first rd i 9 q refl refl

-- The ways out of the recursion: the table has the records below n, or else the parts are put together.
pub entry_type : (reaches : List ℕ) (types : Bool) (i r : ℕ) → types ≡ true → r ≡ get_or reaches (2 * i + 1) 0 → r ≡ get_or reaches (entry_of types i) 0
unfolding entry_of if_true
entry_type reaches types i r h e = simp (entry_of, if_true, h) e

pub entry_index : (reaches : List ℕ) (types : Bool) (i r : ℕ) → types ≡ false → r ≡ get_or reaches (2 * i) 0 → r ≡ get_or reaches (entry_of types i) 0
unfolding entry_of if_true
entry_index reaches types i r h e = simp (entry_of, if_true, h) e

entry_is : (rd : Reader) (e i : ℕ) (types : Bool) → e / 2 ≡ i → is_odd e ≡ types → entry_reach rd e ≡ reach types (tree rd i)
unfolding entry_reach
entry_is rd e i types h s = rw (h, s) refl

pub entry_of_lem : (rd : Reader) (types : Bool) (i : ℕ) → entry_reach rd (entry_of types i) ≡ reach types (tree rd i)
unfolding entry_of if_true is_odd
entry_of_lem rd true i = entry_is rd (2 * i + 1) i true (omega arith) (eq-eqb ((2 * i + 1) % 2) 1 (omega arith))
entry_of_lem rd false i = entry_is rd (2 * i) i false (omega arith) (ne_eqb (2 * i % 2) 1 (λ z. omega arith))

entry_low : (types : Bool) (i n : ℕ) → i < n → entry_of types i < 2 * n
unfolding entry_of if_true
entry_low true i n h = omega arith
entry_low false i n h = omega arith

pub reach_known : (rd : Reader) (reaches : List ℕ) (n : ℕ) (types : Bool) (i r : ℕ) → Reached rd reaches (2 * n) → i < n →
    r ≡ get_or reaches (entry_of types i) 0 → r ≡ reach types (tree rd i)
reach_known rd reaches n types i r t h e = e ∙ t.holds (entry_of types i) (entry_low types i n h) ∙ entry_of_lem rd types i

pub reach_none : (rd : Reader) (types : Bool) (i : ℕ) → i ≡ 0 → 0 ≡ reach types (tree rd i)
unfolding reach
reach_none rd types i h = rw (h, tree_zero rd) refl

pub reach_node : (rd : Reader) (types : Bool) (i k own x y z u p q r : ℕ) → (i ≡ 0 → ⊥) → k ≡ rd i 0 → own ≡ own_reach types k (atom rd i) →
    x ≡ reach types (tree rd (child rd i 1)) → y ≡ reach types (tree rd (child rd i 2)) → z ≡ reach types (tree rd (child rd i 3)) →
    u ≡ y - crossed types k → p ≡ larger u z → q ≡ larger x p → r ≡ larger own q → r ≡ reach types (tree rd i)
unfolding reach
reach_node rd types i k own x y z u p q r n ek eo ex ey ez eu ep eq er =
    rw (tree_step_lem rd i (omega arith), ← ek, ← eo, ← ex, ← ey, ← ez, ← eu, ← ep, ← eq) er

-- the part a that the code has of the words v of record i
module _ (rd : Reader) (i : ℕ) (v : Record) (e : RecordIs rd i v) (w : ℕ) (low : w < 4) (a : ℕ) (ea : a ≡ part_in true i v w) where
  part_is : a ≡ child rd i w
  part_is = ea ∙ part_in_lem rd i v e true w low ∙ part_child rd i w

  pub reach_part : (types : Bool) (r : ℕ) → r ≡ reach types (tree rd a) → r ≡ reach types (tree rd (child rd i w))
  reach_part types r er = rw (← part_is) er

  -- the measure is twice the record's number, and 1 more for a record, 2 for a part
  pub part_falls : (t : ℕ) → 2 * i + 1 ≡ t → (i ≡ 0 → ⊥) → 2 * a + 2 < t
  part_falls t q p = omega (arith, part_is, child_below rd i w (omega arith))

-- The loop.
pub reached_none : (rd : Reader) (reaches : List ℕ) → Reached rd reaches 0
reached_none rd reaches = record { holds = λ e h. absurd (omega arith) }

pub reached_more : (rd : Reader) (reaches : List ℕ) (e v : ℕ) → e < length reaches → Reached rd reaches e → v ≡ entry_reach rd e → Reached rd (set reaches e v) (e + 1)
reached_more rd reaches e v p t q = record { holds = λ j h. go j h (ltb j e) refl }
  where
    go : (j : ℕ) → j < e + 1 → (b : Bool) → ltb j e ≡ b → get_or (set reaches e v) j 0 ≡ entry_reach rd j
    go j h true s = let below = ltb-true j e s in get_or-set_other reaches e j v 0 (omega arith) ∙ t.holds j below
    go j h false s = let one : j ≡ e = omega (arith, ltb-false j e s) in rw one (get_or-set_same reaches e v 0 p ∙ q)

pub reached_end : (rd : Reader) (reaches : List ℕ) (e n : ℕ) → n ≤ e → Reached rd reaches e → Reached rd reaches n
reached_end rd reaches e n h t = record { holds = λ j p. t.holds j (omega arith) }

-- The ways out of the tests.
pub index_below : (rd : Reader) (i d r : ℕ) → r ≡ reach false (tree rd i) → leb r d ≡ indices_below d (tree rd i)
index_below rd i d r e = rw e (sym (indices_reach d (tree rd i)))

pub type_below : (rd : Reader) (i p r : ℕ) → r ≡ reach true (tree rd i) → leb r p ≡ types_below p (tree rd i)
type_below rd i p r e = rw e (sym (types_reach p (tree rd i)))
