-- The comparison of two records, by recursion over their parts. A table may have the records below n: two of those are equal where it says the same of
-- both. By a table of numbers this is equality of trees.
use Prim.Native.Nat.{ℕ, zero, suc, ◌+◌, ◌*◌, ◌<◌, ◌≤◌}
use Rattle.std.specs.Prelude.{◌≡◌, refl, List, Bool, false, eqb, ltb, get_or}
use Rattle.std.proofs.Common.{sym, ◌∙◌, arith}
use Rattle.std.proofs.Math.Path.{ap}
use Rattle.std.proofs.Math.Bool.{true}
use Rattle.std.proofs.lemmas.Bool.{false≢true}
use borrow.Author.Tests.{eqb-true, eqb-false, eq-eqb, ne_eqb, ltb-true, lt-ltb, le-ltb}
use Rattle.reader_equality.specs.Least.{Numbered, numbers_same}
use Rattle.reader_equality.specs.Keys.{part_child, atom_in, part_in, atom_in_lem, part_in_lem, part_in_below}
use Rattle.reader.specs.Words.{Reader}
use Rattle.reader.specs.declared.Record.{Record}
use Rattle.reader.specs.Fetched.{RecordIs}
use Rattle.reader.specs.Tests.{both, if_eq, if_true}
use Rattle.reader.specs.DownLaws.{Local, down_zero, down_step}
use Rattle.reader.specs.Down.{down}
use Rattle.reader.specs.Trees.{child, tree, same_head, same}
use Rattle.reader.specs.TreeLaws.{below, child_below}
use Rattle.reader.specs.SameLaws.{same_head_at, same_child, same_one, same_first_none, same_second_none, same_more}

-- the table has both records
unfoldable pub has_both : ℕ → ℕ → ℕ → Bool
has_both n i j = both (ltb i n) (ltb j n)

both_in : (n i j : ℕ) → has_both n i j ≡ true → (i < n) × (j < n)
unfolding has_both both
both_in n i j h = go (ltb i n) refl (ltb j n) refl h
  where
    go : (a : Bool) → ltb i n ≡ a → (b : Bool) → ltb j n ≡ b → both a b ≡ true → (i < n) × (j < n)
    go true p true q e = (ltb-true i n p, ltb-true j n q)
    go true p false q e = absurd (false≢true e)
    go false p b q e = absurd (false≢true e)

-- the ways out of `has_both`, and what it tells
module _ (n i j : ℕ) where
  pub first_out : n ≤ i → false ≡ has_both n i j
  unfolding has_both both
  first_out h = simp (has_both, both, le-ltb i n h)

  pub first_in : i < n → ltb j n ≡ has_both n i j
  unfolding has_both both
  first_in h = simp (has_both, both, lt-ltb i n h)

  pub entries_in : (r : Bool) (size : ℕ) → r ≡ has_both n i j → r ≡ true → n ≤ size → (i < size) × (j < size)
  entries_in r size e h most = let low = both_in n i j (sym e ∙ h) in (omega arith, omega arith)

-- records i and j, where x, y and z compare the parts of record i with others
unfoldable pub same_with : Reader → List ℕ → ℕ → ℕ → (ℕ → Bool) → (ℕ → Bool) → (ℕ → Bool) → ℕ → Bool
same_with rd table n i x y z j =
    if_eq i j true (if_true (has_both n i j) (eqb (get_or table i 0) (get_or table j 0)) (if_eq i 0 false (if_eq j 0 false
    (both (same_head_at rd i j) (both (x (child rd j 1)) (both (y (child rd j 2)) (z (child rd j 3))))))))

-- one step, where `sub k` compares record k with others
unfoldable pub same_step : Reader → List ℕ → ℕ → (ℕ → ℕ → Bool) → ℕ → ℕ → Bool
same_step rd table n sub i = same_with rd table n i (sub (child rd i 1)) (sub (child rd i 2)) (sub (child rd i 3))

-- record i compared with others; record 0 has no parts
unfoldable pub same_from : Reader → List ℕ → ℕ → ℕ → ℕ → Bool
same_from rd table n = down (same_with rd table n 0 (λ j. false) (λ j. false) (λ j. false)) (same_step rd table n)

-- words w of records i and j refer to equal parts
unfoldable pub same_part : Reader → List ℕ → ℕ → ℕ → ℕ → ℕ → Bool
same_part rd table n i j w = same_from rd table n (child rd i w) (child rd j w)

-- records i and j have one kind, one atom and equal parts
unfoldable pub same_records : Reader → List ℕ → ℕ → ℕ → ℕ → Bool
same_records rd table n i j =
    both (same_head_at rd i j) (both (same_part rd table n i j 1) (both (same_part rd table n i j 2) (same_part rd table n i j 3)))

module _ (rd : Reader) (table : List ℕ) (n : ℕ) where
  same_local : Local (same_step rd table n)
  unfolding same_step
  same_local f g i p h = rw (h _ (child_below rd i 1 p), h _ (child_below rd i 2 p), h _ (child_below rd i 3 p))

  from_step : (i j : ℕ) → same_from rd table n i j ≡
      if_eq i j true (if_true (has_both n i j) (eqb (get_or table i 0) (get_or table j 0)) (if_eq i 0 false (if_eq j 0 false
      (same_records rd table n i j))))
  unfolding same_from same_records same_part same_step same_with if_eq
  from_step zero j = ap (λ (f : ℕ → Bool). f j) (down_zero (same_with rd table n 0 (λ j. false) (λ j. false) (λ j. false)) (same_step rd table n))
  from_step (suc i) j =
      ap (λ (f : ℕ → Bool). f j) (down_step (same_with rd table n 0 (λ j. false) (λ j. false) (λ j. false)) (same_step rd table n) same_local (suc i) (omega arith))

  -- The ways out of `same_at` and `same_part`.
  module _ (i j : ℕ) where
    pub from_one : i ≡ j → true ≡ same_from rd table n i j
    unfolding if_eq
    from_one h = rw (from_step i j) (simp (if_eq, eq-eqb i j h))

    module _ (other : i ≡ j → ⊥) (h : Bool) (eh : h ≡ has_both n i j) where
      pub from_known : h ≡ true → (a b : ℕ) → a ≡ get_or table i 0 → b ≡ get_or table j 0 → eqb a b ≡ same_from rd table n i j
      unfolding if_eq if_true
      from_known t a b p q = rw (from_step i j, p, q) (simp (if_eq, if_true, ne_eqb i j other, ← eh, t))

      module _ (out : h ≡ false) where
        pub from_first_none : i ≡ 0 → false ≡ same_from rd table n i j
        unfolding if_eq if_true
        from_first_none z = rw (from_step i j) (simp (if_eq, if_true, ne_eqb i j other, ← eh, out, eq-eqb i 0 z))

        module _ (p : i ≡ 0 → ⊥) where
          pub from_second_none : j ≡ 0 → false ≡ same_from rd table n i j
          unfolding if_eq if_true
          from_second_none z = rw (from_step i j) (simp (if_eq, if_true, ne_eqb i j other, ← eh, out, ne_eqb i 0 p, eq-eqb j 0 z))

          pub from_parts : (j ≡ 0 → ⊥) → (r : Bool) → r ≡ same_records rd table n i j → r ≡ same_from rd table n i j
          unfolding if_eq if_true
          from_parts q r e = rw (from_step i j) (simp (if_eq, if_true, ne_eqb i j other, ← eh, out, ne_eqb i 0 p, ne_eqb j 0 q) e)

  -- The ways out of `same_records`, which has the words of records i and j.
  module _ (i j : ℕ) (x y : Record) (ex : RecordIs rd i x) (ey : RecordIs rd j y) where
    pub records_kinds : (x.kind ≡ y.kind → ⊥) → false ≡ same_records rd table n i j
    unfolding same_records same_head_at same_head both
    records_kinds h = simp (both, same_head, ← ex.kind_is, ← ey.kind_is, ne_eqb x.kind y.kind h)

    module _ (one : x.kind ≡ y.kind) (p q : ℕ) (ep : p ≡ atom_in i x) (eq : q ≡ atom_in j y) where
      head_is : same_head_at rd i j ≡ eqb p q
      unfolding same_head_at same_head
      head_is = simp (same_head, ← ex.kind_is, ← ey.kind_is, eq-eqb x.kind y.kind one, ← atom_in_lem rd i x ex, ← atom_in_lem rd j y ey, ← ep, ← eq)

      pub records_atoms : (p ≡ q → ⊥) → false ≡ same_records rd table n i j
      unfolding same_records both
      records_atoms h = rw head_is (simp (both, ne_eqb p q h))

      pub records_parts : p ≡ q → (r : Bool) → r ≡ both (same_part rd table n i j 1) (both (same_part rd table n i j 2) (same_part rd table n i j 3)) →
          r ≡ same_records rd table n i j
      unfolding same_records both
      records_parts h r e = rw head_is (simp (both, eq-eqb p q h) e)

    module _ (w : ℕ) (low : w < 4) (a b : ℕ) (ea : a ≡ part_in true i x w) (eb : b ≡ part_in true j y w) where
      pub part_same : (r : Bool) → r ≡ same_from rd table n a b → r ≡ same_part rd table n i j w
      unfolding same_part
      part_same r e =
          let one : a ≡ child rd i w = ea ∙ part_in_lem rd i x ex true w low ∙ part_child rd i w in
          let other : b ≡ child rd j w = eb ∙ part_in_lem rd j y ey true w low ∙ part_child rd j w in
          rw (← one, ← other) e

-- from a record to a part, where the measure is three times the record's number and 1, and at the callee 3 more than three times
pub part_falls : (i : ℕ) (x : Record) (w a t : ℕ) → 3 * i + 1 ≡ t → 0 < i → a ≡ part_in true i x w → 3 * a + 3 < t
part_falls i x w a t e p q = omega (arith, part_in_below true i x w p)

-- By a table of numbers it is equality of trees.
module _ (rd : Reader) (table : List ℕ) (n : ℕ) (t : Numbered rd table n) where
  parts_same : (i j : ℕ) → (i ≡ 0 → ⊥) → (j ≡ 0 → ⊥) → ((x : ℕ) → x < i → (y : ℕ) → same_from rd table n x y ≡ same (tree rd x) (tree rd y)) →
      same_records rd table n i j ≡ same (tree rd i) (tree rd j)
  unfolding same_records same_part same_child
  parts_same i j p q sub =
      let part : (w : ℕ) → same_part rd table n i j w ≡ same_child rd i j w =
      λ w. sub (child rd i w) (child_below rd i w (omega arith)) (child rd j w) in
      same_more rd i j _ p q (rw (part 1, part 2, part 3) refl)

  from_tree : (i j : ℕ) → same_from rd table n i j ≡ same (tree rd i) (tree rd j)
  from_tree = below (λ i. (j : ℕ) → same_from rd table n i j ≡ same (tree rd i) (tree rd j)) step
    where
      step : (i : ℕ) → ((x : ℕ) → x < i → (j : ℕ) → same_from rd table n x j ≡ same (tree rd x) (tree rd j)) →
          (j : ℕ) → same_from rd table n i j ≡ same (tree rd i) (tree rd j)
      step i sub j = go (eqb i j) refl (has_both n i j) refl (eqb i 0) refl (eqb j 0) refl
        where
          go : (a : Bool) → eqb i j ≡ a → (b : Bool) → has_both n i j ≡ b → (c : Bool) → eqb i 0 ≡ c → (d : Bool) → eqb j 0 ≡ d →
              same_from rd table n i j ≡ same (tree rd i) (tree rd j)
          go true p b h c q d s = sym (from_one rd table n i j (eqb-true i j p)) ∙ same_one rd i j (eqb-true i j p)
          go false p true h c q d s =
              let low = both_in n i j h in
              sym (from_known rd table n i j (eqb-false i j p) true (sym h) refl _ _ refl refl) ∙ numbers_same rd i j _ _ (t.holds i low.0) (t.holds j low.1)
          go false p false h true q d s =
              sym (from_first_none rd table n i j (eqb-false i j p) false (sym h) refl (eqb-true i 0 q)) ∙ same_first_none rd i j (eqb-false i j p) (eqb-true i 0 q)
          go false p false h false q true s =
              sym (from_second_none rd table n i j (eqb-false i j p) false (sym h) refl (eqb-false i 0 q) (eqb-true j 0 s))
              ∙ same_second_none rd i j (eqb-false i 0 q) (eqb-true j 0 s)
          go false p false h false q false s =
              sym (from_parts rd table n i j (eqb-false i j p) false (sym h) refl (eqb-false i 0 q) (eqb-false j 0 s) _ refl)
              ∙ parts_same i j (eqb-false i 0 q) (eqb-false j 0 s) sub

  pub from_same : (i j : ℕ) (r : Bool) → r ≡ same_from rd table n i j → r ≡ same (tree rd i) (tree rd j)
  from_same i j r e = e ∙ from_tree i j
