-- The table of reaches, and the ways out of the code that fills and reads it.
use Prim.Native.Nat.{ℕ, zero, suc, ◌+◌, ◌*◌, ◌-◌, ◌/◌, ◌%◌, ◌<◌, ◌≤◌}
use Rattle.std.specs.Prelude.{◌≡◌, List, Bool, ltb, leb, length, get_or, set}
use Rattle.std.proofs.Math.Path.{refl}
use Rattle.std.proofs.Common.{sym, ◌∙◌, get_or-set_same, get_or-set_other, eqb-true, ltb-true, ltb-false, le-ltb}
use Rattle.std.proofs.Math.Bool.{true, false}
use Rattle.std.proofs.Math.Dec.{eqb}
use Rattle.std.proofs.Math.ListN.{get_or-eq_default}
use native.Mathlib.Omega.{arith}
use Rattle.std.proofs.lemmas.Bool.{eqb-false}
use Rattle.reader.specs.Words.{Reader}
use Rattle.reader.specs.Tests.{if_eq, if_lt, if_true}
use Rattle.reader.specs.TestLaws.{eq_yes, eq_no}
use Rattle.reader.specs.Trees.{Tree, child, atom, ¬ᵗ◌}
use Rattle.reader.specs.TreeLaws.{child_below}
use Rattle.reader.specs.Variables.{binders, indices_below}
use Rattle.reader_closedness.specs.Reaches.{variable_index, own_none, own_variable}
use Rattle.reader_closedness.specs.Reach.{larger, variable, crossed, own_reach, reach, indices_reach}
use Rattle.reader.specs.declared.Record.{Record}
use Rattle.reader.specs.Fetched.{RecordIs}
use Rattle.reader_equality.specs.declared.Parts.{Parts}
use Rattle.reader_equality.specs.Keys.{part_at, part_below}
use Rattle.reader_equality.specs.Shapes.{PartsAre}
use Rattle.derivation_rules.specs.Erase.{bare_tree}
use Rattle.derivation_trees.specs.Erased.{bare_zero, bare_true, bare_all, bare_node}
use Rattle.derivation_trees.specs.Keys.{negations_of, body_of, body_tree, negate, decoded, Normal, by_body, body_none, body_bottom, body_record}
use Rattle.derivation_trees.specs.Parts.{body_in}
use Rattle.derivation_closedness.specs.Orders.{order, part_order, order_none}
use Rattle.derivation_closedness.specs.Parts.{first_part, second_part, third_part, first_low, second_low, third_low, true_first, true_second, true_third, all_first, all_second, all_third}

-- the indices of the records below n are below 64
pub record Indexed (rd : Reader) (n : ℕ) : Type 0 where
  pub low : (i : ℕ) → i < n → rd i 0 ≡ 9 → rd i 1 < 64

pub indexed_as : (rd : Reader) (n k : ℕ) → k ≡ n → Indexed rd n → Indexed rd k
indexed_as rd n k e h = rw e h

-- the table has the reaches and the orders of the records below n: an entry is reach + 128 * mark + 256 * order
pub record Reached (rd : Reader) (reaches : List ℕ) (n : ℕ) : Type 0 where
  pub holds : (i : ℕ) → i < n → get_or reaches i 0 % 128 ≡ reach false (bare_tree rd i)
  pub ordered : (i : ℕ) → i < n → get_or reaches i 0 / 256 ≡ order (bare_tree rd i)

-- no entry has a mark
pub record Unmarked (reaches : List ℕ) : Type 0 where
  pub none : (i : ℕ) → get_or reaches i 0 % 256 < 128

-- an entry of record i without a mark
pub record EntryOf (rd : Reader) (i v : ℕ) : Type 0 where
  pub reached : v % 128 ≡ reach false (bare_tree rd i)
  pub unmarked : v % 256 < 128
  pub ordered : v / 256 ≡ order (bare_tree rd i)

-- the reach of part w of record i
unfoldable pub part_reach : Reader → ℕ → ℕ → ℕ
part_reach rd i w = reach false (bare_tree rd (part_at rd false i w))

-- the reach of a node, by those of its parts
unfoldable pub node_reach : Reader → ℕ → ℕ
node_reach rd i =
    larger (own_reach false (rd i 0) (atom rd i)) (larger (part_reach rd i 1) (larger (part_reach rd i 2 - crossed false (rd i 0)) (part_reach rd i 3)))

larger_none : (a : ℕ) → larger a 0 ≡ a
unfolding larger if_lt
larger_none a = simp (larger, if_lt, le-ltb a 0 (omega arith))

none_larger : (a : ℕ) → larger 0 a ≡ a
unfolding larger if_lt
none_larger a = go (ltb 0 a) refl
  where
    go : (b : Bool) → ltb 0 a ≡ b → elim b as (λ x. ℕ) [ true ↦ a | false ↦ 0 ] ≡ a
    go true e = refl
    go false e = omega (arith, ltb-false 0 a e)

-- The ways out of `own_reach`, and what it is in the tree.
pub own_other : (x : Record) → (x.kind ≡ 9 → ⊥) → 0 ≡ own_reach false x.kind x.a
unfolding own_reach variable if_true
own_other x h = eq_no x.kind 9 _ _ 0 h refl

pub own_index : (x : Record) → x.kind ≡ 9 → x.a + 1 ≡ own_reach false x.kind x.a
unfolding own_reach variable if_true
own_index x h = eq_yes x.kind 9 _ _ (x.a + 1) h refl

own_atom : (rd : Reader) (i : ℕ) (x : Record) → RecordIs rd i x → own_reach false x.kind x.a ≡ own_reach false (rd i 0) (atom rd i)
own_atom rd i x e = go (eqb x.kind 9) refl
  where
    same : own_reach false x.kind (atom rd i) ≡ own_reach false (rd i 0) (atom rd i)
    same = rw e.kind_is refl

    go : (b : Bool) → eqb x.kind 9 ≡ b → own_reach false x.kind x.a ≡ own_reach false (rd i 0) (atom rd i)
    go true t =
        let h = eqb-true x.kind 9 t in
        sym (own_index x h) ∙ own_variable rd false i x.kind 9 (variable_index false refl) e.kind_is h x.a e.a_is ∙ same
    go false t =
        let h = eqb-false x.kind 9 t in
        sym (own_other x h) ∙ own_none rd false i x.kind 9 (variable_index false refl) h ∙ same

-- The way out of `node_reach`: a node by its parts, ⊤ and kind 22 too.
reach_zero : (rd : Reader) → reach false (bare_tree rd 0) ≡ 0
unfolding reach
reach_zero rd = rw (bare_zero rd) refl

module _ (rd : Reader) (i : ℕ) (p : 0 < i) where
  reach_true : rd i 0 ≡ 15 → reach false (bare_tree rd i) ≡ 0
  unfolding reach larger own_reach variable crossed binders if_eq if_lt if_true
  reach_true h = rw (bare_true rd i p h) refl

  node_true : rd i 0 ≡ 15 → node_reach rd i ≡ 0
  unfolding node_reach part_reach own_reach variable crossed binders larger if_eq if_lt if_true
  node_true h = rw (true_first rd i h, true_second rd i h, true_third rd i h, reach_zero rd, h) refl

  node_all : rd i 0 ≡ 22 → node_reach rd i ≡ reach false (bare_tree rd i)
  unfolding node_reach part_reach own_reach variable crossed binders if_eq if_true
  node_all h =
      rw (bare_all rd i p h, all_first rd i h, all_second rd i h, all_third rd i h, reach_zero rd, h)
      (alone (reach false (bare_tree rd (child rd i 2))))
    where
      alone : (y : ℕ) → larger 0 (larger 0 (larger (y - 0) 0)) ≡ y
      alone y = none_larger (larger 0 (larger (y - 0) 0)) ∙ none_larger (larger (y - 0) 0) ∙ larger_none (y - 0) ∙ omega arith

  node_any : node_reach rd i ≡ reach false (bare_tree rd i)
  unfolding reach node_reach part_reach
  node_any = go (eqb (rd i 0) 15) refl (eqb (rd i 0) 22) refl
    where
      plain : (rd i 0 ≡ 15 → ⊥) → (rd i 0 ≡ 22 → ⊥) → node_reach rd i ≡ reach false (bare_tree rd i)
      plain no_true no_all = rw (bare_node rd i p no_true no_all) refl

      go : (b : Bool) → eqb (rd i 0) 15 ≡ b → (c : Bool) → eqb (rd i 0) 22 ≡ c → node_reach rd i ≡ reach false (bare_tree rd i)
      go true e c g = let h = eqb-true (rd i 0) 15 e in node_true h ∙ sym (reach_true h)
      go false e true g = node_all (eqb-true (rd i 0) 22 g)
      go false e false g = plain (eqb-false (rd i 0) 15 e) (eqb-false (rd i 0) 22 g)

  pub node_made : (x : Record) → RecordIs rd i x → (own a b c u q s r : ℕ) → own ≡ own_reach false x.kind x.a →
      a ≡ part_reach rd i 1 → b ≡ part_reach rd i 2 → c ≡ part_reach rd i 3 →
      u ≡ b - crossed false x.kind → q ≡ larger u c → s ≡ larger a q → r ≡ larger own s → r ≡ reach false (bare_tree rd i)
  unfolding node_reach
  node_made x e own a b c u q s r eo ea eb ec eu eq es er =
      let made : r ≡ node_reach rd i = rw (← own_atom rd i x e, ← e.kind_is, ← eo, ← ea, ← eb, ← ec, ← eu, ← eq, ← es) er in
      made ∙ node_any

-- The ways out of the recursion: the table has the records below n, or else the parts are put together.
pub reach_known : (rd : Reader) (reaches : List ℕ) (n i r : ℕ) → Reached rd reaches n → i < n → r ≡ get_or reaches i 0 % 128 → r ≡ reach false (bare_tree rd i)
reach_known rd reaches n i r t h e = e ∙ t.holds i h

pub reach_none : (rd : Reader) (i : ℕ) → i ≡ 0 → 0 ≡ reach false (bare_tree rd i)
reach_none rd i h = rw h (sym (reach_zero rd))

module _ (rd : Reader) (i : ℕ) (x : Record) (parts : Parts) (e : RecordIs rd i x) (are : PartsAre false i x parts) (r : ℕ) where
  pub first_reach : r ≡ reach false (bare_tree rd parts.first) → r ≡ part_reach rd i 1
  unfolding part_reach
  first_reach h = rw (← first_part rd i x parts e are) h

  pub second_reach : r ≡ reach false (bare_tree rd parts.second) → r ≡ part_reach rd i 2
  unfolding part_reach
  second_reach h = rw (← second_part rd i x parts e are) h

  pub third_reach : r ≡ reach false (bare_tree rd parts.third) → r ≡ part_reach rd i 3
  unfolding part_reach
  third_reach h = rw (← third_part rd i x parts e are) h

  -- The same for the orders, which the table has.
  module _ (reaches : List ℕ) (t : Reached rd reaches i) (p : 0 < i) where
    pub first_order : r ≡ get_or reaches parts.first 0 / 256 → r ≡ part_order rd i 1
    unfolding part_order
    first_order h = rw (← first_part rd i x parts e are) (h ∙ t.ordered parts.first (first_low rd i x parts e are p i (omega arith)))

    pub second_order : r ≡ get_or reaches parts.second 0 / 256 → r ≡ part_order rd i 2
    unfolding part_order
    second_order h = rw (← second_part rd i x parts e are) (h ∙ t.ordered parts.second (second_low rd i x parts e are p i (omega arith)))

    pub third_order : r ≡ get_or reaches parts.third 0 / 256 → r ≡ part_order rd i 3
    unfolding part_order
    third_order h = rw (← third_part rd i x parts e are) (h ∙ t.ordered parts.third (third_low rd i x parts e are p i (omega arith)))

-- Where indices are below 64, no reach is more than 64, which fits an entry.
pub larger_most : (a b n : ℕ) → a ≤ n → b ≤ n → larger a b ≤ n
unfolding larger if_lt
larger_most a b n p q = go (ltb a b)
  where
    go : (s : Bool) → elim s as (λ x. ℕ) [ true ↦ b | false ↦ a ] ≤ n
    go true = q
    go false = p

module _ (rd : Reader) (n : ℕ) (indexed : Indexed rd n) where
  own_most : (i : ℕ) → i < n → own_reach false (rd i 0) (atom rd i) ≤ 64
  own_most i h = go (eqb (rd i 0) 9) refl
    where
      go : (b : Bool) → eqb (rd i 0) 9 ≡ b → own_reach false (rd i 0) (atom rd i) ≤ 64
      go true e =
          let nine : rd i 0 ≡ 9 = eqb-true (rd i 0) 9 e in
          omega (arith, own_variable rd false i (rd i 0) 9 (variable_index false refl) refl nine (rd i 1) refl, indexed.low i h nine)
      go false e = omega (arith, own_none rd false i (rd i 0) 9 (variable_index false refl) (eqb-false (rd i 0) 9 e))

  -- a record whose parts, which are smaller, have no more
  reach_step : (i : ℕ) → 0 < i → i < n → ((x : ℕ) → x < i → reach false (bare_tree rd x) ≤ 64) → reach false (bare_tree rd i) ≤ 64
  unfolding reach
  reach_step i p h part = go (eqb (rd i 0) 15) refl (eqb (rd i 0) 22) refl
    where
      go : (b : Bool) → eqb (rd i 0) 15 ≡ b → (c : Bool) → eqb (rd i 0) 22 ≡ c → reach false (bare_tree rd i) ≤ 64
      go true e c g = omega (arith, reach_true rd i p (eqb-true (rd i 0) 15 e))
      go false e true g = rw (bare_all rd i p (eqb-true (rd i 0) 22 g)) (part (child rd i 2) (child_below rd i 2 p))
      go false e false g =
          let y = part (part_at rd false i 2) (part_below rd false i 2 p) in
          rw (bare_node rd i p (eqb-false (rd i 0) 15 e) (eqb-false (rd i 0) 22 g))
          (larger_most _ _ 64 (own_most i h)
          (larger_most _ _ 64 (part (part_at rd false i 1) (part_below rd false i 1 p))
          (larger_most _ _ 64 (omega (arith, y)) (part (part_at rd false i 3) (part_below rd false i 3 p)))))

  reach_most : (f i : ℕ) → i < f → i < n → reach false (bare_tree rd i) ≤ 64
  unfolding reach
  reach_most zero i p h = absurd (omega arith)
  reach_most (suc f) zero p h = rw (bare_zero rd) (omega arith)
  reach_most (suc f) (suc i) p h = reach_step (suc i) (omega arith) h (λ x q. reach_most f x (omega arith) (omega arith))

  pub reach_low : (i r : ℕ) → i < n → r ≡ reach false (bare_tree rd i) → r ≤ 64
  reach_low i r h e = omega (arith, reach_most (suc i) i (omega arith) h)

  pub entry_made : (i r o : ℕ) → i < n → r ≡ reach false (bare_tree rd i) → o ≡ order (bare_tree rd i) → EntryOf rd i (r + 256 * o)
  entry_made i r o h e eo =
      let low : r ≤ 64 = reach_low i r h e in
      let rest : (r + 256 * o) % 128 ≡ r = omega arith in
      let high : (r + 256 * o) / 256 ≡ o = omega arith in
      record { reached = rest ∙ e; unmarked = omega arith; ordered = high ∙ eo }

-- the entry of record 0
pub entry_none : (rd : Reader) (i : ℕ) → i ≡ 0 → EntryOf rd i 0
entry_none rd i h = record { reached = reach_none rd i h; unmarked = omega arith; ordered = order_none rd i h }

-- The loop: the entries of the records below n are made.
pub record Filled (rd : Reader) (reaches : List ℕ) (n : ℕ) : Type 0 where
  pub holds : (i : ℕ) → i < n → EntryOf rd i (get_or reaches i 0)

pub filled_none : (rd : Reader) (reaches : List ℕ) → Filled rd reaches 0
filled_none rd reaches = record { holds = λ i h. absurd (omega arith) }

pub filled_more : (rd : Reader) (reaches : List ℕ) (i v : ℕ) → i < length reaches → Filled rd reaches i → EntryOf rd i v → Filled rd (set reaches i v) (i + 1)
filled_more rd reaches i v p f e = record { holds = λ j h. go j h (ltb j i) refl }
  where
    go : (j : ℕ) → j < i + 1 → (b : Bool) → ltb j i ≡ b → EntryOf rd j (get_or (set reaches i v) j 0)
    go j h true q = let below = ltb-true j i q in rw (get_or-set_other reaches i j v 0 (omega arith)) (f.holds j below)
    go j h false q = let one : j ≡ i = omega (arith, ltb-false j i q) in rw (one, get_or-set_same reaches i v 0 p) e

pub filled_reached : (rd : Reader) (reaches : List ℕ) (i n : ℕ) → n ≤ i → Filled rd reaches i → Reached rd reaches n
filled_reached rd reaches i n h f = record {
  holds = λ j p. (f.holds j (omega arith)).reached;
  ordered = λ j p. (f.holds j (omega arith)).ordered;
}

pub filled_unmarked : (rd : Reader) (reaches : List ℕ) (i : ℕ) → length reaches ≤ i → Filled rd reaches i → Unmarked reaches
filled_unmarked rd reaches i h f = record { none = λ j. go j (ltb j i) refl }
  where
    go : (j : ℕ) (b : Bool) → ltb j i ≡ b → get_or reaches j 0 % 256 < 128
    go j true q = (f.holds j (ltb-true j i q)).unmarked
    go j false q =
        let past : length reaches ≤ j = omega (arith, ltb-false j i q) in
        omega (arith, get_or-eq_default reaches 0 past)

-- The ways out of the code that reads the table by keys.
reach_not : (t : Tree) → reach false (¬ᵗ t) ≡ reach false t
unfolding reach own_reach variable crossed binders if_eq if_true
reach_not t = rw (larger_none 0, larger_none (reach false t), none_larger (reach false t)) refl

reach_negate : (n : ℕ) (t : Tree) → reach false (negate n t) ≡ reach false t
unfolding negate
reach_negate zero t = refl
reach_negate (suc n) t = reach_not (negate n t) ∙ reach_negate n t

module _ (rd : Reader) (key b : ℕ) (eb : b ≡ key % 262144) where
  reach_body : reach false (decoded rd key) ≡ reach false (body_tree rd b)
  unfolding decoded body_of
  reach_body = rw eb (reach_negate (negations_of key) (body_tree rd (body_of key)))

  pub reach_sign : b < 2 → 0 ≡ reach false (decoded rd key)
  unfolding reach larger own_reach variable crossed binders if_eq if_lt if_true
  reach_sign h = rw reach_body (by_body b
      (λ e. rw (body_none rd b e) refl)
      (λ e. rw (body_bottom rd b e) refl)
      (λ e. absurd (omega arith)))

  pub reach_record : (size : ℕ) (reaches : List ℕ) (r : ℕ) → Normal rd size key → size ≤ length reaches → Reached rd reaches (length reaches) → 2 ≤ b →
      r ≡ get_or reaches (b - 1) 0 % 128 → r ≡ reach false (decoded rd key)
  reach_record size reaches r normal l reached h e =
      rw (reach_body, body_record rd b h) (e ∙ reached.holds (b - 1) (body_in rd size key b (length reaches) normal eb h l))

pub below_is : (rd : Reader) (key d r : ℕ) → r ≡ reach false (decoded rd key) → leb r d ≡ indices_below d (decoded rd key)
below_is rd key d r e = rw e (sym (indices_reach d (decoded rd key)))
