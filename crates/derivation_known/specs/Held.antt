-- A set of records that stands behind the rows of facts, a bit for a record: what putting records in does to it, and how it is closed under parts.
use Rattle.std.specs.Prelude.{ℕ, zero, suc, ◌+◌, ◌*◌, ◌/◌, ◌%◌, ◌^◌, ◌<◌, ◌≤◌, ◌≡◌, List, Bool, true, false, not, eqb, ltb, length, get_or, set}
use Rattle.std.proofs.Math.Path.{refl}
use Rattle.std.proofs.Common.{sym, ◌∙◌, get_or-set_other, arith, eqb-true, ltb-true, ltb-false}
use Rattle.std.proofs.lemmas.Bool.{false≢true, eqb-false, not-true, not-false}
use Rattle.std.specs.Int.Bits.{bit_or}
use Rattle.std.proofs.Math.ListN.{get_or-eq_default}
use Rattle.std.proofs.Math.Seq.{get_or-set_same, set_out}
use Rattle.reader.specs.Words.{Reader}
use Rattle.reader.specs.Tests.{if_lt, if_true}
use Rattle.reader.specs.Kinds.{role_at}
use Rattle.reader.specs.Trees.{lower}
use Rattle.reader.specs.declared.Record.{Record}
use Rattle.reader.specs.Fetched.{RecordIs}
use Rattle.reader_equality.specs.declared.Parts.{Parts}
use Rattle.reader_equality.specs.Keys.{is_part, part_at, part_in_lem}
use Rattle.reader_equality.specs.Shapes.{PartsAre}
use Rattle.derivation_known.specs.Bits.{bit_at, bit_zero, bit_own, bit_kept, bit_only}

-- record j is in the set
unfoldable pub held : List ℕ → ℕ → Bool
held known j = bit_at (get_or known (16384 + j / 64) 0) (j % 64)

-- the rows of facts are the same
pub record SameRows (before after : List ℕ) : Type 0 where
  pub same : (k : ℕ) → k < 16384 → get_or after k 0 ≡ get_or before k 0

-- record p is put in, where the table has room for it, and no other
pub record Puts (before after : List ℕ) (p : ℕ) : Type 0 where
  pub rows : SameRows before after
  pub own : (i : ℕ) → p ≤ i → held before i ≡ true → held after p ≡ true
  pub kept : (i : ℕ) → held before i ≡ true → held after i ≡ true
  pub only : (i : ℕ) → (i ≡ p → ⊥) → held after i ≡ true → held before i ≡ true

-- with a record from n on the set has the record's parts, types removed
pub record ClosedFrom (rd : Reader) (known : List ℕ) (n : ℕ) : Type 0 where
  pub parts : (j : ℕ) → n ≤ j → j < 262144 → held known j ≡ true → (w : ℕ) → 0 < w → w < 4 → held known (part_at rd false j w) ≡ true

-- a record whose word is 0 is not in the set
pub held_none : (known : List ℕ) (j : ℕ) → get_or known (16384 + j / 64) 0 ≡ 0 → held known j ≡ false
unfolding held
held_none known j e = rw e (bit_zero (j % 64))

not_held : (known : List ℕ) (j : ℕ) → held known j ≡ false → held known j ≡ true → {A : Type 0} → A
not_held known j e h = absurd (false≢true (sym e ∙ h))

-- the set is that of its words
pub held_same : (before after : List ℕ) → ((k : ℕ) → 16384 ≤ k → get_or after k 0 ≡ get_or before k 0) → (j : ℕ) → held before j ≡ held after j
unfolding held
held_same before after same j = rw (same (16384 + j / 64) (omega arith)) refl

-- a record of the set has its word in the table
held_room : (known : List ℕ) (j : ℕ) → held known j ≡ true → 16384 + j / 64 < length known
held_room known j h = go (ltb (16384 + j / 64) (length known)) refl
  where
    go : (b : Bool) → ltb (16384 + j / 64) (length known) ≡ b → 16384 + j / 64 < length known
    go true e = ltb-true (16384 + j / 64) (length known) e
    go false e = not_held known j (held_none known j (get_or-eq_default known 0 (ltb-false (16384 + j / 64) (length known) e))) h

-- The rows of facts, through one change after another.
pub rows_same : (known : List ℕ) → SameRows known known
rows_same known = record { same = λ k h. refl }

pub rows_then : (first second third : List ℕ) → SameRows first second → SameRows second third → SameRows first third
rows_then first second third a b = record { same = λ k h. b.same k h ∙ a.same k h }

pub rows_set : (first second : List ℕ) (k v : ℕ) → 16384 ≤ k → SameRows first second → SameRows first (set second k v)
rows_set first second k v h a = record { same = λ i p. get_or-set_other second k i v 0 (λ e. omega arith) ∙ a.same i p }

pub rows_put : (first second third : List ℕ) (p : ℕ) → SameRows first second → Puts second third p → SameRows first third
rows_put first second third p a b = rows_then first second third a b.rows

-- The ways out of `is_held` and `put`.
pub is_held : (known : List ℕ) (j v : ℕ) → v ≡ get_or known (16384 + j / 64) 0 → eqb (v / 2 ^ (j % 64) % 2) 1 ≡ held known j
unfolding held bit_at
is_held known j v e = rw (← e) refl

module _ (known : List ℕ) (p v u : ℕ) (ev : v ≡ get_or known (16384 + p / 64) 0) (eu : u ≡ 2 ^ (p % 64)) where
  abbrev word : ℕ
  word = bit_or v u

  abbrev more : List ℕ
  more = set known (16384 + p / 64) word

  -- a word of the set in the table has one bit more, or none
  here : 16384 + p / 64 < length known → (i : ℕ) → i / 64 ≡ p / 64 → held more i ≡ bit_at word (i % 64)
  unfolding held
  here room i e = rw (e, get_or-set_same known (16384 + p / 64) word 0 room) refl

  was : (i : ℕ) → i / 64 ≡ p / 64 → held known i ≡ bit_at v (i % 64)
  unfolding held
  was i e = rw (e, ← ev) refl

  away : (i : ℕ) → (i / 64 ≡ p / 64 → ⊥) → held more i ≡ held known i
  unfolding held
  away i h = rw (get_or-set_other known (16384 + p / 64) (16384 + i / 64) word 0 (λ e. h (omega arith))) refl

  -- what holds of a record by its word
  by_word : (i : ℕ) (P : Bool → Type 0) → P (held known i) → (16384 + p / 64 < length known → i / 64 ≡ p / 64 → P (bit_at word (i % 64))) → P (held more i)
  by_word i P old new = go (eqb (i / 64) (p / 64)) refl (ltb (16384 + p / 64) (length known)) refl
    where
      go : (b : Bool) → eqb (i / 64) (p / 64) ≡ b → (t : Bool) → ltb (16384 + p / 64) (length known) ≡ t → P (held more i)
      go true e true h =
          let room : 16384 + p / 64 < length known = ltb-true (16384 + p / 64) (length known) h in
          let one : i / 64 ≡ p / 64 = eqb-true (i / 64) (p / 64) e in
          rw (here room i one) (new room one)
      go true e false h = rw (set_out known (16384 + p / 64) word (ltb-false (16384 + p / 64) (length known) h)) old
      go false e t h = rw (away i (eqb-false (i / 64) (p / 64) e)) old

  pub puts : Puts known more p
  puts = record {
    rows = rows_set known known (16384 + p / 64) word (omega arith) (rows_same known);
    own = λ i low h. rw (here (let room = held_room known i h in omega arith) p refl) (rw eu (bit_own v (p % 64)));
    kept = λ i h. by_word i (λ b. b ≡ true) h (λ room e. rw eu (bit_kept v (p % 64) (i % 64) (sym (was i e) ∙ h)));
    only = λ i other. by_word i (λ b. b ≡ true → held known i ≡ true) (λ h. h) (λ room e h. was i e ∙ bit_only v (p % 64) (i % 64) (λ z. other (omega arith)) (rw eu at h));
  }

-- a part is no larger than its record
pub part_most : (rd : Reader) (j w : ℕ) → part_at rd false j w ≤ j
unfolding part_at lower if_true if_lt
part_most rd j w = go (is_part false (role_at rd j w)) (ltb (rd j w) j) refl
  where
    go : (b l : Bool) → ltb (rd j w) j ≡ l → elim b as (λ x. ℕ) [ true ↦ elim l as (λ x. ℕ) [ true ↦ rd j w | false ↦ 0 ] | false ↦ 0 ] ≤ j
    go true true e = let less : rd j w < j = ltb-true (rd j w) j e in omega arith
    go true false e = omega arith
    go false l e = omega arith

-- The ways out of `close_record`: one record more is closed.
pub closed_other : (rd : Reader) (known : List ℕ) (j : ℕ) (t : Bool) → t ≡ held known j → not t ≡ true → ClosedFrom rd known (j + 1) → ClosedFrom rd known j
closed_other rd known j t et h closed = record { parts = λ i low small holds w p q. go i low small holds w p q (eqb i j) refl }
  where
    go : (i : ℕ) → j ≤ i → i < 262144 → held known i ≡ true → (w : ℕ) → 0 < w → w < 4 → (b : Bool) → eqb i j ≡ b → held known (part_at rd false i w) ≡ true
    go i low small holds w p q true e = not_held known j (sym et ∙ not-true t h) (rw (eqb-true i j e) at holds)
    go i low small holds w p q false e = let away = eqb-false i j e in closed.parts i (omega arith) small holds w p q

module _ (rd : Reader) (known : List ℕ) (j : ℕ) (t : Bool) (et : t ≡ held known j) (given : not t ≡ false) (closed : ClosedFrom rd known (j + 1))
    (x : Record) (is : RecordIs rd j x) (ps : Parts) (are : PartsAre false j x ps)
    (one two three : List ℕ) (a : Puts known one ps.first) (b : Puts one two ps.second) (c : Puts two three ps.third) where
  first_part : ps.first ≡ part_at rd false j 1
  first_part = are.first_is ∙ part_in_lem rd j x is false 1 (omega arith)

  second_part : ps.second ≡ part_at rd false j 2
  second_part = are.second_is ∙ part_in_lem rd j x is false 2 (omega arith)

  third_part : ps.third ≡ part_at rd false j 3
  third_part = are.third_is ∙ part_in_lem rd j x is false 3 (omega arith)

  here_now : held known j ≡ true
  here_now = sym et ∙ not-false t given

  own_parts : (w : ℕ) → 0 < w → w < 4 → held three (part_at rd false j w) ≡ true
  own_parts zero p q = absurd (omega arith)
  own_parts (suc zero) p q = rw (← first_part) (c.kept _ (b.kept _ (a.own j (rw first_part (part_most rd j 1)) here_now)))
  own_parts (suc (suc zero)) p q = rw (← second_part) (c.kept _ (b.own j (rw second_part (part_most rd j 2)) (a.kept j here_now)))
  own_parts (suc (suc (suc zero))) p q = rw (← third_part) (c.own j (rw third_part (part_most rd j 3)) (b.kept j (a.kept j here_now)))
  own_parts (suc (suc (suc (suc w)))) p q = absurd (omega arith)

  -- a larger record was there before
  larger : (i : ℕ) → j < i → held three i ≡ true → held known i ≡ true
  larger i low h =
      a.only i (λ e. omega (arith, first_part, part_most rd j 1))
      (b.only i (λ e. omega (arith, second_part, part_most rd j 2)) (c.only i (λ e. omega (arith, third_part, part_most rd j 3)) h))

  pub closed_parts : ClosedFrom rd three j
  closed_parts = record { parts = λ i low small holds w p q. go i low small holds w p q (eqb i j) refl }
    where
      go : (i : ℕ) → j ≤ i → i < 262144 → held three i ≡ true → (w : ℕ) → 0 < w → w < 4 → (z : Bool) → eqb i j ≡ z → held three (part_at rd false i w) ≡ true
      go i low small holds w p q true e = rw (eqb-true i j e) (own_parts w p q)
      go i low small holds w p q false e =
          let away = eqb-false i j e in
          c.kept _ (b.kept _ (a.kept _ (closed.parts i (omega arith) small (larger i (omega arith) holds) w p q)))

-- The ways out of `close_word` and `close`.
pub closed_none : (rd : Reader) (known : List ℕ) (k v : ℕ) → v ≡ get_or known (16384 + k) 0 → v ≡ 0 → ClosedFrom rd known (64 * k + 64) → ClosedFrom rd known (64 * k)
closed_none rd known k v ev h closed = record { parts = λ i low small holds w p q. go i low small holds w p q (ltb i (64 * k + 64)) refl }
  where
    go : (i : ℕ) → 64 * k ≤ i → i < 262144 → held known i ≡ true → (w : ℕ) → 0 < w → w < 4 → (b : Bool) → ltb i (64 * k + 64) ≡ b → held known (part_at rd false i w) ≡ true
    go i low small holds w p q true e =
        let less : i < 64 * k + 64 = ltb-true i (64 * k + 64) e in
        let word : k ≡ i / 64 = omega arith in
        not_held known i (held_none known i (rw (← word) (sym ev ∙ h))) holds
    go i low small holds w p q false e = closed.parts i (ltb-false i (64 * k + 64) e) small holds w p q

pub closed_later : (rd : Reader) (known : List ℕ) (n j : ℕ) → n ≤ j → ClosedFrom rd known n → ClosedFrom rd known j
closed_later rd known n j h closed = record { parts = λ i low. closed.parts i (omega arith) }

pub closed_far : (rd : Reader) (known : List ℕ) (n : ℕ) → 262144 ≤ n → ClosedFrom rd known n
closed_far rd known n h = record { parts = λ i low small holds w p q. absurd (omega arith) }
