-- The two entries of one record, from those of its parts: the ways out of the code that fills the table.
use Rattle.std.specs.Prelude.{ℕ, ◌+◌, ◌*◌, ◌-◌, ◌<◌, ◌≤◌, ◌≡◌, List, Bool, eqb, length, get_or, set}
use Rattle.std.proofs.Math.Path.{refl, sym}
use Rattle.std.proofs.Common.{◌∙◌, lit<, arith, eqb-true}
use Rattle.std.proofs.Math.Bool.{true, false}
use Rattle.std.proofs.Math.ListN.{length-set}
use Rattle.std.proofs.lemmas.Bool.{eqb-false}
use Rattle.reader.specs.Words.{Reader}
use Rattle.reader.specs.Tests.{if_true}
use Rattle.reader.specs.TestLaws.{eq_yes, eq_no}
use Rattle.reader.specs.Trees.{child, atom, tree}
use Rattle.reader.specs.declared.Record.{Record}
use Rattle.reader.specs.Fetched.{RecordIs}
use Rattle.reader_equality.specs.declared.Parts.{Parts}
use Rattle.reader_equality.specs.Keys.{part_in, part_in_below}
use Rattle.reader_equality.specs.Shapes.{PartsAre}
use Rattle.reader_closedness.specs.Reach.{larger, variable, crossed, own_reach, reach}
use Rattle.reader_closedness.specs.Reaches.{entry_of, entry_of_lem, Reached, own_none, own_variable, reach_known, reach_none, reach_node, reach_part, reached_more, reached_end}

-- a table of n entries has the parts
pub record PartsBelow (parts : Parts) (n : ℕ) : Type 0 where
  pub first : 2 * parts.first + 1 < n
  pub second : 2 * parts.second + 1 < n
  pub third : 2 * parts.third + 1 < n

-- how far a record reaches, whose words are v, by the entries of its parts
unfoldable pub reach_in : List ℕ → Bool → Record → Parts → ℕ
reach_in reaches types v parts =
    larger (own_reach types v.kind v.a) (larger (get_or reaches (entry_of types parts.first) 0)
    (larger (get_or reaches (entry_of types parts.second) 0 - crossed types v.kind) (get_or reaches (entry_of types parts.third) 0)))

-- The ways out of `own_in`.
module _ (types : Bool) (v : Record) (u : ℕ) (eu : u ≡ variable types) where
  pub own_other : (v.kind ≡ u → ⊥) → 0 ≡ own_reach types v.kind v.a
  unfolding own_reach
  own_other h = eq_no _ _ _ _ 0 (λ e. h (e ∙ sym eu)) refl

  pub own_itself : v.kind ≡ u → v.a + 1 ≡ own_reach types v.kind v.a
  unfolding own_reach
  own_itself h = eq_yes _ _ _ _ (v.a + 1) (h ∙ eu) refl

-- The way out of `reach_in`.
pub reach_joined : (reaches : List ℕ) (types : Bool) (v : Record) (parts : Parts) (own x y z u p q r : ℕ) → own ≡ own_reach types v.kind v.a →
    x ≡ get_or reaches (entry_of types parts.first) 0 → y ≡ get_or reaches (entry_of types parts.second) 0 → z ≡ get_or reaches (entry_of types parts.third) 0 →
    u ≡ y - crossed types v.kind → p ≡ larger u z → q ≡ larger x p → r ≡ larger own q → r ≡ reach_in reaches types v parts
unfolding reach_in
reach_joined reaches types v parts own x y z u p q r eo ex ey ez eu ep eq er = rw (← eo, ← ex, ← ey, ← ez, ← eu, ← ep, ← eq) er

-- The way of `reach_record`, which has the words v of record i and its parts.
module _ (rd : Reader) (reaches : List ℕ) (i : ℕ) (v : Record) (parts : Parts) (n : i ≡ 0 → ⊥) (e : RecordIs rd i v) (are : PartsAre true i v parts) where
  pub parts_below : 2 * i + 1 < length reaches → PartsBelow parts (length reaches)
  parts_below h =
      let low : (w : ℕ) → part_in true i v w < i = λ w. part_in_below true i v w (omega arith) in
      record { first = omega (arith, are.first_is, low 1); second = omega (arith, are.second_is, low 2); third = omega (arith, are.third_is, low 3) }

  own_is : (types : Bool) → own_reach types v.kind v.a ≡ own_reach types v.kind (atom rd i)
  own_is types = go (eqb v.kind (variable types)) refl
    where
      go : (b : Bool) → eqb v.kind (variable types) ≡ b → own_reach types v.kind v.a ≡ own_reach types v.kind (atom rd i)
      go true t = let h = eqb-true v.kind (variable types) t in
          sym (own_itself types v _ refl h) ∙ own_variable rd types i v.kind _ refl e.kind_is h v.a e.a_is
      go false t = let h = eqb-false v.kind (variable types) t in sym (own_other types v _ refl h) ∙ own_none rd types i v.kind _ refl h

  module _ (t : Reached rd reaches (2 * i)) where
    entry_part : (types : Bool) (w a : ℕ) → w < 4 → a ≡ part_in true i v w → get_or reaches (entry_of types a) 0 ≡ reach types (tree rd (child rd i w))
    entry_part types w a h ea =
        reach_part rd i v e w h a ea types _ (reach_known rd reaches i types a _ t (omega (arith, ea, part_in_below true i v w (omega arith))) refl)

    pub reach_made : (types : Bool) (r : ℕ) → r ≡ reach_in reaches types v parts → r ≡ reach types (tree rd i)
    unfolding reach_in
    reach_made types r er =
        reach_node rd types i v.kind _ _ _ _ _ _ _ r n e.kind_is (own_is types) (entry_part types 1 _ (lit< tt) are.first_is)
        (entry_part types 2 _ (lit< tt) are.second_is) (entry_part types 3 _ (lit< tt) are.third_is) refl refl refl er

-- the table with both entries of record i
module _ (rd : Reader) (reaches : List ℕ) (i a b : ℕ) (h : 2 * i + 1 < length reaches) (t : Reached rd reaches (2 * i)) where
  pub reached_both : a ≡ reach false (tree rd i) → b ≡ reach true (tree rd i) → Reached rd (set (set reaches (2 * i) a) (2 * i + 1) b) (2 * i + 2)
  unfolding entry_of if_true
  reached_both ea eb =
      let one : Reached rd (set reaches (2 * i) a) (2 * i + 1) = reached_more rd reaches (2 * i) a (omega arith) t (ea ∙ sym (entry_of_lem rd false i)) in
      reached_end rd _ (2 * i + 1 + 1) (2 * i + 2) (omega arith)
      (reached_more rd (set reaches (2 * i) a) (2 * i + 1) b (omega (arith, length-set reaches (2 * i) a)) one (eb ∙ sym (entry_of_lem rd true i)))

-- record 0
pub reached_zero : (rd : Reader) (reaches : List ℕ) (i : ℕ) → i ≡ 0 → 2 * i + 1 < length reaches → Reached rd reaches (2 * i) →
    Reached rd (set (set reaches 0 0) 1 0) (2 * i + 2)
reached_zero rd reaches i z h t =
    let both = reached_both rd reaches i 0 0 h t (reach_none rd false i z) (reach_none rd true i z) in
    rw z (rw z at both)

-- The ways out of `reach_all`: both entries of the records below n, and a last one alone.
module _ (rd : Reader) (reaches : List ℕ) (n i : ℕ) (end : n ≤ i) (most : i ≤ n) (t : Reached rd reaches (2 * i)) where
  pub reached_last : (a : ℕ) → 2 * n < length reaches → length reaches ≤ 2 * n + 1 → a ≡ reach false (tree rd n) → Reached rd (set reaches (2 * n) a) (length (set reaches (2 * n) a))
  unfolding entry_of if_true
  reached_last a h top ea =
      reached_end rd _ (2 * n + 1) (length (set reaches (2 * n) a)) (omega (arith, length-set reaches (2 * n) a))
      (reached_more rd reaches (2 * n) a h (reached_end rd reaches (2 * i) (2 * n) (omega arith) t) (ea ∙ sym (entry_of_lem rd false n)))
