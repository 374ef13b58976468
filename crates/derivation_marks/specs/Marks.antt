-- Marks of the records that a constant is in, types removed, and the ways out of the code that makes and reads them.
use Rattle.std.specs.Prelude.{ℕ, zero, suc, ◌+◌, ◌*◌, ◌-◌, ◌/◌, ◌%◌, ◌<◌, ◌≤◌, ◌≡◌, List, Bool, not, ltb, length, set}
use Rattle.std.proofs.Math.Path.{refl, sym}
use Rattle.std.proofs.Common.{◌∙◌, get_or-set_same, get_or-set_other, arith}
use Rattle.std.proofs.Math.Bool.{true, false}
use Rattle.std.proofs.lemmas.Bool.{false≢true}
use Rattle.std.proofs.Math.Dec.{eqb}
use Rattle.std.proofs.Math.ListN.{get_or}
use Rattle.std.proofs.Math.Seq.{ext_get_or}
use borrow.Author.Tests.{eq-eqb, ne_eqb, eqb-true, eqb-false, ltb-true, ltb-false, not-true, not-false}
use Rattle.reader.specs.Words.{Reader}
use Rattle.reader.specs.Tests.{both, either, if_eq, if_lt, if_true}
use Rattle.reader.specs.Kinds.{is_symbol, role_at}
use Rattle.reader.specs.Trees.{Tree, lower, child, atom, ¬ᵗ◌}
use Rattle.reader.specs.Variables.{is_constant, occurs}
use Rattle.reader.specs.TreeLaws.{below}
use Rattle.reader.specs.declared.Record.{Record}
use Rattle.reader.specs.Fetched.{RecordIs, word_in, word_in_lem}
use Rattle.reader_equality.specs.Keys.{is_part, part_at, part_in, part_below, part_in_lem}
use Rattle.derivation_rules.specs.Erase.{bare_tree}
use Rattle.derivation_trees.specs.Erased.{bare_zero, bare_true, bare_all, bare_node}
use Rattle.derivation_trees.specs.Keys.{negations_of, body_of, body_tree, negate, decoded, by_body, body_none, body_bottom, body_record}
use Rattle.derivation_closedness.specs.Parts.{true_first, true_second, true_third, all_first, all_second, all_third}
use Rattle.derivation_closedness.specs.Reaches.{Unmarked}

-- the mark of a record: 1 where the constant is in it
unfoldable pub mark_of : Bool → ℕ
mark_of b = elim b [ true ↦ 1 | false ↦ 0 ]

-- the table has the marks of the records from c on that are below n
pub record Marked (rd : Reader) (c : ℕ) (reaches : List ℕ) (n : ℕ) : Type 0 where
  pub holds : (j : ℕ) → c ≤ j → j < n → get_or reaches j 0 / 128 % 2 ≡ mark_of (occurs c (bare_tree rd j))

-- entry v of record j with its mark, and an entry without one
unfoldable pub with_mark : Reader → ℕ → ℕ → ℕ → ℕ
with_mark rd c j v = v + 128 * mark_of (occurs c (bare_tree rd j))

unfoldable pub without_mark : ℕ → ℕ → ℕ
without_mark j v = v - 128 * (v / 128 % 2)

-- the entries from c on that are below n are changed, and no others
pub record Changed (change : ℕ → ℕ → ℕ) (c n : ℕ) (before after : List ℕ) : Type 0 where
  pub inside : (j : ℕ) → c ≤ j → j < n → get_or after j 0 ≡ change j (get_or before j 0)
  pub outside : (j : ℕ) → (c ≤ j → j < n → ⊥) → get_or after j 0 ≡ get_or before j 0

-- record j is the constant c
unfoldable pub constant_at : Reader → ℕ → ℕ → Bool
constant_at rd c j = both (eqb j c) (eqb (rd j 0) 7)

-- the constant is in part w of record j
unfoldable pub part_marked : Reader → ℕ → ℕ → ℕ → Bool
part_marked rd c j w = occurs c (bare_tree rd (part_at rd false j w))

-- the constant is record j or in a part of it
unfoldable node_marked : Reader → ℕ → ℕ → Bool
node_marked rd c j = either (constant_at rd c j) (either (part_marked rd c j 1) (either (part_marked rd c j 2) (part_marked rd c j 3)))

-- a constant's atom is its record
constant_is : (rd : Reader) (c j : ℕ) → is_constant (rd j 0) (atom rd j) c ≡ constant_at rd c j
unfolding is_constant constant_at both atom if_true is_symbol if_eq
constant_is rd c j = go (eqb (rd j 0) 7) refl
  where
    with_true : (b : Bool) → b ≡ both b true
    with_true true = refl
    with_true false = refl

    with_false : (b : Bool) → false ≡ both b false
    with_false true = refl
    with_false false = refl

    go : (b : Bool) → eqb (rd j 0) 7 ≡ b → elim b as (λ x. Bool) [ true ↦ eqb (atom rd j) c | false ↦ false ] ≡ both (eqb j c) b
    go true e =
        let seven : rd j 0 ≡ 7 = eqb-true (rd j 0) 7 e in
        let own : atom rd j ≡ j = rw (atom, seven) refl in
        rw own (with_true (eqb j c))
    go false e = with_false (eqb j c)

occurs_zero : (rd : Reader) (c : ℕ) → occurs c (bare_tree rd 0) ≡ false
unfolding occurs
occurs_zero rd c = rw (bare_zero rd) refl

-- A record by its parts, ⊤ and kind 22 too, which have none and their formula.
module _ (rd : Reader) (c j : ℕ) (p : 0 < j) where
  no_constant : (k : ℕ) → rd j 0 ≡ k → eqb k 7 ≡ false → constant_at rd c j ≡ false
  unfolding constant_at both
  no_constant k h e = rw (h, e) (go (eqb j c))
    where
      go : (b : Bool) → elim b as (λ x. Bool) [ true ↦ false | false ↦ false ] ≡ false
      go true = refl
      go false = refl

  node_true : rd j 0 ≡ 15 → occurs c (bare_tree rd j) ≡ node_marked rd c j
  unfolding occurs is_constant either part_marked node_marked
  node_true h = rw (bare_true rd j p h, no_constant 15 h refl, true_first rd j h, true_second rd j h, true_third rd j h, occurs_zero rd c) refl

  node_all : rd j 0 ≡ 22 → occurs c (bare_tree rd j) ≡ node_marked rd c j
  unfolding either part_marked node_marked
  node_all h =
      rw (bare_all rd j p h, no_constant 22 h refl, all_first rd j h, all_second rd j h, all_third rd j h, occurs_zero rd c)
      (alone (occurs c (bare_tree rd (child rd j 2))))
    where
      alone : (b : Bool) → b ≡ elim b as (λ x. Bool) [ true ↦ true | false ↦ false ]
      alone true = refl
      alone false = refl

  node_plain : (rd j 0 ≡ 15 → ⊥) → (rd j 0 ≡ 22 → ⊥) → occurs c (bare_tree rd j) ≡ node_marked rd c j
  unfolding occurs either part_marked node_marked
  node_plain no_true no_all = rw (bare_node rd j p no_true no_all, ← constant_is rd c j) refl

  occurs_node : occurs c (bare_tree rd j) ≡ node_marked rd c j
  occurs_node = go (eqb (rd j 0) 15) refl (eqb (rd j 0) 22) refl
    where
      go : (b : Bool) → eqb (rd j 0) 15 ≡ b → (d : Bool) → eqb (rd j 0) 22 ≡ d → occurs c (bare_tree rd j) ≡ node_marked rd c j
      go true e d g = node_true (eqb-true (rd j 0) 15 e)
      go false e true g = node_all (eqb-true (rd j 0) 22 g)
      go false e false g = node_plain (eqb-false (rd j 0) 15 e) (eqb-false (rd j 0) 22 g)

-- a smaller record has it not
pub occurs_below : (rd : Reader) (c j : ℕ) → j < c → occurs c (bare_tree rd j) ≡ false
unfolding constant_at part_marked node_marked both either
occurs_below rd c j = below (λ i. i < c → occurs c (bare_tree rd i) ≡ false) step j
  where
    step : (i : ℕ) → ((k : ℕ) → k < i → k < c → occurs c (bare_tree rd k) ≡ false) → i < c → occurs c (bare_tree rd i) ≡ false
    step zero ih p = occurs_zero rd c
    step (suc i) ih p = rw (occurs_node rd c (suc i) pos) (simp (ne_eqb (suc i) c (λ z. omega arith), part 1, part 2, part 3))
      where
        pos : 0 < suc i
        pos = omega arith

        part : (w : ℕ) → occurs c (bare_tree rd (part_at rd false (suc i) w)) ≡ false
        part w = let low = part_below rd false (suc i) w pos in ih (part_at rd false (suc i) w) low (omega arith)

-- The ways out of the code that reads a mark.
mark_bit : (b : Bool) → eqb (mark_of b) 1 ≡ b
unfolding mark_of
mark_bit true = refl
mark_bit false = refl

module _ (rd : Reader) (c x : ℕ) where
  pub mark_low : x < c → false ≡ occurs c (bare_tree rd x)
  mark_low h = sym (occurs_below rd c x h)

  pub mark_high : (n : ℕ) (reaches : List ℕ) → c ≤ x → x < n → Marked rd c reaches n → eqb (get_or reaches x 0 / 128 % 2) 1 ≡ occurs c (bare_tree rd x)
  mark_high n reaches h p marked = rw (marked.holds x h p) (mark_bit (occurs c (bare_tree rd x)))

-- The ways out of `part_marked`: a part is the word or none.
part_or : (rd : Reader) (j w : ℕ) (P : ℕ → Type 0) → P 0 → (rd j w < j → P (rd j w)) → P (part_at rd false j w)
unfolding part_at lower if_true if_lt
part_or rd j w P none some = go (is_part false (role_at rd j w)) (ltb (rd j w) j) refl
  where
    go : (b l : Bool) → ltb (rd j w) j ≡ l → P (elim b as (λ x. ℕ) [ true ↦ elim l as (λ x. ℕ) [ true ↦ rd j w | false ↦ 0 ] | false ↦ 0 ])
    go true true e = some (ltb-true (rd j w) j e)
    go true false e = none
    go false l e = none

module _ (rd : Reader) (c j : ℕ) (x : Record) (e : RecordIs rd j x) (w a : ℕ) (h : w < 4) (ea : a ≡ word_in x w) where
  word_at : a ≡ rd j w
  word_at = ea ∙ word_in_lem rd j x e w h

  pub mark_far : j ≤ a → false ≡ part_marked rd c j w
  unfolding part_marked
  mark_far p = part_or rd j w (λ y. false ≡ occurs c (bare_tree rd y)) (sym (occurs_zero rd c)) (λ q. absurd (omega (arith, word_at)))

  module _ (t : Bool) (et : t ≡ occurs c (bare_tree rd a)) where
    pub mark_none : not t ≡ true → false ≡ part_marked rd c j w
    unfolding part_marked
    mark_none n = part_or rd j w (λ y. false ≡ occurs c (bare_tree rd y)) (sym (occurs_zero rd c)) (λ q. rw (← word_at) (sym (not-true t n) ∙ et))

    pub mark_part : not t ≡ false → (y : ℕ) → y ≡ part_in false j x w → eqb y a ≡ part_marked rd c j w
    unfolding part_marked
    mark_part n y ey =
        rw (ey, part_in_lem rd j x e false w h)
        (part_or rd j w (λ z. eqb z a ≡ occurs c (bare_tree rd z)) (ne_eqb 0 a some ∙ sym (occurs_zero rd c)) (λ q. rw (← word_at) (eq-eqb a a refl ∙ found)))
      where
        found : true ≡ occurs c (bare_tree rd a)
        found = sym (not-false t n) ∙ et

        some : 0 ≡ a → ⊥
        some z = false≢true (sym (occurs_zero rd c) ∙ rw z (sym found))

-- The ways out of `is_constant`.
module _ (rd : Reader) (c j k : ℕ) where
  pub constant_other : (j ≡ c → ⊥) → false ≡ constant_at rd c j
  unfolding constant_at both
  constant_other h = simp (constant_at, both, ne_eqb j c h)

  pub constant_kind : j ≡ c → k ≡ rd j 0 → eqb k 7 ≡ constant_at rd c j
  unfolding constant_at both
  constant_kind h e = simp (constant_at, both, eq-eqb j c h, ← e)

-- The tests of `is_in`.
pub either_yes : (a b t : Bool) → t ≡ a → t ≡ true → true ≡ either a b
unfolding either
either_yes a b t e h = simp (← e, h)

pub either_next : (a b t r : Bool) → t ≡ a → t ≡ false → r ≡ b → r ≡ either a b
unfolding either
either_next a b t r e h q = simp (← e, h) q

pub ruleset eithers = (either_yes, either_next)

-- The ways out of `is_in`.
pub in_none : (rd : Reader) (c j : ℕ) → j ≡ 0 → false ≡ occurs c (bare_tree rd j)
in_none rd c j h = rw h (sym (occurs_zero rd c))

pub in_node : (rd : Reader) (c j : ℕ) → (j ≡ 0 → ⊥) → (r : Bool) →
    r ≡ either (constant_at rd c j) (either (part_marked rd c j 1) (either (part_marked rd c j 2) (part_marked rd c j 3))) → r ≡ occurs c (bare_tree rd j)
unfolding node_marked
in_node rd c j p r e = rw (occurs_node rd c j (omega arith)) e

-- The ways out of `marked_entry`.
module _ (rd : Reader) (c j v : ℕ) (t : Bool) (e : t ≡ occurs c (bare_tree rd j)) where
  pub entry_yes : t ≡ true → v + 128 ≡ with_mark rd c j v
  unfolding with_mark mark_of
  entry_yes h = simp (← e, h)

  pub entry_no : t ≡ false → v ≡ with_mark rd c j v
  unfolding with_mark mark_of
  entry_no h = simp (← e, h) (omega arith)

-- The loops: one entry more is changed.
module _ (change : ℕ → ℕ → ℕ) (c : ℕ) (before : List ℕ) where
  pub changed_none : Changed change c c before before
  changed_none = record { inside = λ j p q. absurd (omega arith); outside = λ j h. refl }

  pub changed_more : (j v : ℕ) (after : List ℕ) → j < length after → c ≤ j → Changed change c j before after → v ≡ change j (get_or after j 0) →
      Changed change c (j + 1) before (set after j v)
  changed_more j v after room p changed e = record { inside = λ i q r. go i q r (ltb i j) refl; outside = λ i h. other i h }
    where
      go : (i : ℕ) → c ≤ i → i < j + 1 → (b : Bool) → ltb i j ≡ b → get_or (set after j v) i 0 ≡ change i (get_or before i 0)
      go i q r true t = let less : i < j = ltb-true i j t in get_or-set_other after j i v 0 (omega arith) ∙ changed.inside i q less
      go i q r false t =
          let one : i ≡ j = omega (arith, ltb-false i j t) in
          rw (one, get_or-set_same after j v 0 room, ← changed.outside j (λ x y. omega arith)) e

      other : (i : ℕ) → (c ≤ i → i < j + 1 → ⊥) → get_or (set after j v) i 0 ≡ get_or before i 0
      other i h =
          get_or-set_other after j i v 0 (λ z. h (omega arith) (omega arith)) ∙ changed.outside i (λ x y. h x (omega arith))

  -- the loop goes no further than n, and not at all where n is below c
  pub changed_end : (j n : ℕ) (after : List ℕ) → n ≤ j → j - c ≤ n - c → Changed change c j before after → Changed change c n before after
  changed_end j n after h most changed = record {
    inside = λ i p q. changed.inside i p (omega arith);
    outside = λ i other. changed.outside i (λ p q. other p (omega arith));
  }

-- Where there were no marks, those that the loop makes are the table's, and taken off again they leave the table as it was.
mark_back : (v m : ℕ) → v % 256 < 128 → m < 2 → ((v + 128 * m) / 128 % 2 ≡ m) × (v + 128 * m - 128 * m ≡ v)
mark_back v m h p = (omega arith, omega arith)

mark_small : (b : Bool) → mark_of b < 2
unfolding mark_of
mark_small true = omega arith
mark_small false = omega arith

module _ (rd : Reader) (c n : ℕ) (before marked : List ℕ) (unmarked : Unmarked before) (marks : Changed (with_mark rd c) c n before marked) where
  pub next_unmarked : get_or marked n 0 % 256 < 128
  next_unmarked = rw (marks.outside n (λ p q. omega arith)) (unmarked.none n)

  pub changed_marked : Marked rd c marked n
  unfolding with_mark
  changed_marked = record {
    holds = λ j p q. rw (marks.inside j p q) (mark_back (get_or before j 0) (mark_of (occurs c (bare_tree rd j))) (unmarked.none j) (mark_small (occurs c (bare_tree rd j)))).0;
  }

  pub marks_off : (after : List ℕ) → length after ≡ length before → Changed without_mark c n marked after → after ≡ before
  unfolding with_mark without_mark
  marks_off after long off = ext_get_or 0 after before long (λ j h. by_start_lem j (ltb j c) refl)
    where
      same : (j : ℕ) → (c ≤ j → j < n → ⊥) → get_or after j 0 ≡ get_or before j 0
      same j h = off.outside j h ∙ marks.outside j h

      by_end : (j : ℕ) → c ≤ j → (b : Bool) → ltb j n ≡ b → get_or after j 0 ≡ get_or before j 0
      by_end j p true e =
          let h : j < n = ltb-true j n e in
          let back = mark_back (get_or before j 0) (mark_of (occurs c (bare_tree rd j))) (unmarked.none j) (mark_small (occurs c (bare_tree rd j))) in
          rw (off.inside j p h, marks.inside j p h, back.0) back.1
      by_end j p false e = same j (λ q h. omega (arith, ltb-false j n e))

      by_start_lem : (j : ℕ) (b : Bool) → ltb j c ≡ b → get_or after j 0 ≡ get_or before j 0
      by_start_lem j true e = same j (λ q h. omega (arith, ltb-true j c e))
      by_start_lem j false e = by_end j (ltb-false j c e) (ltb j n) refl

-- The ways out of `key_marked`.
occurs_not : (c : ℕ) (t : Tree) → occurs c (¬ᵗ t) ≡ occurs c t
unfolding occurs is_constant
occurs_not c t = go (occurs c t)
  where
    go : (b : Bool) → elim b as (λ x. Bool) [ true ↦ true | false ↦ false ] ≡ b
    go true = refl
    go false = refl

occurs_negate : (c n : ℕ) (t : Tree) → occurs c (negate n t) ≡ occurs c t
unfolding negate
occurs_negate c zero t = refl
occurs_negate c (suc n) t = occurs_not c (negate n t) ∙ occurs_negate c n t

module _ (rd : Reader) (c key b : ℕ) (eb : b ≡ key % 262144) where
  occurs_body : occurs c (decoded rd key) ≡ occurs c (body_tree rd b)
  unfolding decoded body_of
  occurs_body = rw eb (occurs_negate c (negations_of key) (body_tree rd (body_of key)))

  pub key_sign : b < 2 → false ≡ occurs c (decoded rd key)
  unfolding occurs is_constant
  key_sign h = rw occurs_body (by_body b
      (λ e. rw (body_none rd b e) refl)
      (λ e. rw (body_bottom rd b e) refl)
      (λ e. absurd (omega arith)))

  pub key_record : 2 ≤ b → (r : Bool) → r ≡ occurs c (bare_tree rd (b - 1)) → r ≡ occurs c (decoded rd key)
  key_record h r e = rw (occurs_body, body_record rd b h) e
