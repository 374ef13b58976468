-- Marks of the records that a constant is in, and the ways out of the code that makes and reads them.
use Rattle.std.specs.Prelude.{ℕ, zero, suc, ◌+◌, ◌/◌, ◌%◌, ◌<◌, ◌≤◌, ◌≡◌, List, ◌∷◌, Bool, not, eqb, ltb, length, take, get_or, set}
use Rattle.std.proofs.Math.Path.{refl}
use Rattle.std.proofs.Common.{sym, ◌∙◌, get_or-set_same, get_or-set_other}
use Rattle.std.proofs.Math.Bool.{true, false}
use Rattle.std.proofs.Math.ListN.{drop_of_length-le}
use native.Mathlib.Omega.{arith}
use borrow.Author.Tests.{eq-eqb, ne_eqb, eqb-true, ltb-true, ltb-false}
use Rattle.reader.specs.Words.{Reader}
use Rattle.reader.specs.Tests.{both, either, every, if_eq, if_true}
use Rattle.reader.specs.Kinds.{is_symbol}
use Rattle.reader.specs.Trees.{Tree, child, atom, tree, ¬ᵗ◌, ◌=ᵗ◌}
use Rattle.reader.specs.Variables.{is_constant, occurs}
use Rattle.reader.specs.TreeLaws.{below, child_below, tree_zero, tree_step_lem}
use Rattle.reader.specs.Members.{is_fresh}
use Rattle.proof_members.specs.Keys.{by_one, equation_of, right_of, left_of, body, decoded, Normal, body_equation, body_single, decoded_negation, decoded_plain}
use Rattle.proof_members.specs.Sequents.{sequent, members_from, members_next}

-- the mark of a record: 1 where the constant is in it
unfoldable pub mark_of : Bool → ℕ
mark_of b = elim b [ true ↦ 1 | false ↦ 0 ]

-- the table has the marks of the records from c on that are below n
pub record Marked (rd : Reader) (c : ℕ) (marks : List ℕ) (n : ℕ) : Type 0 where
  pub holds : (j : ℕ) → c ≤ j → j < n → get_or marks j 0 ≡ mark_of (occurs c (tree rd j))

-- record j is the constant c
unfoldable pub constant_at : Reader → ℕ → ℕ → Bool
constant_at rd c j = both (eqb j c) (eqb (rd j 0) 7)

-- the constant is in what word w of record j refers to
unfoldable pub part_marked : Reader → ℕ → ℕ → ℕ → Bool
part_marked rd c j w = occurs c (tree rd (child rd j w))

-- a constant's atom is its record
constant_is : (rd : Reader) (c j : ℕ) → is_constant (rd j 0) (atom rd j) c ≡ constant_at rd c j
unfolding is_constant constant_at both atom if_true is_symbol if_eq
constant_is rd c j = go (eqb (rd j 0) 7) refl
  where
    with_true : (b : Bool) → b ≡ both b true
    with_true true = refl
    with_true false = refl

    with_false : (b : Bool) → false ≡ both b false
    with_false true = refl
    with_false false = refl

    go : (b : Bool) → eqb (rd j 0) 7 ≡ b → elim b as (λ x. Bool) [ true ↦ eqb (atom rd j) c | false ↦ false ] ≡ both (eqb j c) b
    go true e =
        let seven : rd j 0 ≡ 7 = eqb-true (rd j 0) 7 e in
        let own : atom rd j ≡ j = rw (atom, seven) refl in
        rw own (with_true (eqb j c))
    go false e = with_false (eqb j c)

occurs_step : (rd : Reader) (c j : ℕ) → 0 < j →
    occurs c (tree rd j) ≡ either (constant_at rd c j) (either (part_marked rd c j 1) (either (part_marked rd c j 2) (part_marked rd c j 3)))
unfolding occurs either part_marked
occurs_step rd c j p = rw (tree_step_lem rd j p, ← constant_is rd c j) refl

-- a smaller record has it not
pub occurs_below : (rd : Reader) (c j : ℕ) → j < c → occurs c (tree rd j) ≡ false
unfolding constant_at part_marked both either occurs
occurs_below rd c j = below (λ i. i < c → occurs c (tree rd i) ≡ false) step j
  where
    step : (i : ℕ) → ((k : ℕ) → k < i → k < c → occurs c (tree rd k) ≡ false) → i < c → occurs c (tree rd i) ≡ false
    step zero ih p = rw (tree_zero rd) refl
    step (suc i) ih p =
        let pos : 0 < suc i = omega arith in
        let part : (w : ℕ) → occurs c (tree rd (child rd (suc i) w)) ≡ false =
        λ w. ih (child rd (suc i) w) (child_below rd (suc i) w pos) (omega (arith, child_below rd (suc i) w pos)) in
        rw (occurs_step rd c (suc i) pos) (simp (ne_eqb (suc i) c (λ z. omega arith), part 1, part 2, part 3))

-- The ways out of the code that reads a mark.
mark_bit : (b : Bool) → eqb (mark_of b) 1 ≡ b
unfolding mark_of
mark_bit true = refl
mark_bit false = refl

module _ (rd : Reader) (c x : ℕ) where
  pub mark_low : x < c → false ≡ occurs c (tree rd x)
  mark_low h = sym (occurs_below rd c x h)

  pub mark_high : (n : ℕ) (marks : List ℕ) → c ≤ x → x < n → Marked rd c marks n → eqb (get_or marks x 0) 1 ≡ occurs c (tree rd x)
  mark_high n marks h p marked = rw (marked.holds x h p) (mark_bit (occurs c (tree rd x)))

  pub mark_part : (j w : ℕ) (r : Bool) → x ≡ child rd j w → r ≡ occurs c (tree rd x) → r ≡ part_marked rd c j w
  unfolding part_marked
  mark_part j w r e h = rw (← e) h

  pub part_low : (j w : ℕ) → 0 < j → x ≡ child rd j w → x < j
  part_low j w p e = omega (arith, child_below rd j w p)

-- The ways out of `is_constant`.
module _ (rd : Reader) (c j : ℕ) where
  pub constant_other : (j ≡ c → ⊥) → false ≡ constant_at rd c j
  unfolding constant_at both
  constant_other h = simp (constant_at, both, ne_eqb j c h)

  pub constant_kind : j ≡ c → (k : ℕ) → k ≡ rd j 0 → eqb k 7 ≡ constant_at rd c j
  unfolding constant_at both
  constant_kind h k e = simp (constant_at, both, eq-eqb j c h, ← e)

-- The ways out of `mark_of`.
pub mark_yes : (a b t : Bool) → t ≡ a → t ≡ true → 1 ≡ mark_of (either a b)
unfolding mark_of either
mark_yes a b t e h = simp (← e, h)

pub mark_next : (a b t : Bool) (r : ℕ) → t ≡ a → t ≡ false → r ≡ mark_of b → r ≡ mark_of (either a b)
unfolding mark_of either
mark_next a b t r e h q = simp (← e, h) q

pub mark_last : (a t : Bool) → t ≡ a → t ≡ true → 1 ≡ mark_of a
unfolding mark_of
mark_last a t e h = simp (← e, h)

pub mark_no : (a t : Bool) → t ≡ a → t ≡ false → 0 ≡ mark_of a
unfolding mark_of
mark_no a t e h = simp (← e, h)

pub mark_none : (rd : Reader) (c j : ℕ) → j ≡ 0 → 0 ≡ mark_of (occurs c (tree rd j))
unfolding mark_of occurs
mark_none rd c j h = rw (h, tree_zero rd) refl

pub mark_record : (rd : Reader) (c j r : ℕ) → (j ≡ 0 → ⊥) →
    r ≡ mark_of (either (constant_at rd c j) (either (part_marked rd c j 1) (either (part_marked rd c j 2) (part_marked rd c j 3)))) → r ≡ mark_of (occurs c (tree rd j))
mark_record rd c j r p e = rw (occurs_step rd c j (omega arith)) e

pub ruleset marks = (mark_record, mark_yes, mark_next, mark_last, mark_no)

-- The table with one mark more.
pub marked_start : (rd : Reader) (c : ℕ) (marks : List ℕ) → Marked rd c marks c
marked_start rd c marks = record { holds = λ j p q. absurd (omega arith) }

pub marked_more : (rd : Reader) (c j n v : ℕ) (before marks : List ℕ) → length marks ≡ length before → n ≤ length before → j < n →
    Marked rd c marks j → v ≡ mark_of (occurs c (tree rd j)) → Marked rd c (set marks j v) (j + 1)
marked_more rd c j n v before marks l room within marked e = record { holds = λ i q r. go i q r (ltb i j) refl }
  where
    p : j < length marks
    p = omega arith

    go : (i : ℕ) → c ≤ i → i < j + 1 → (b : Bool) → ltb i j ≡ b → get_or (set marks j v) i 0 ≡ mark_of (occurs c (tree rd i))
    go i q r true t = let less : i < j = ltb-true i j t in get_or-set_other marks j i v 0 (omega arith) ∙ marked.holds i q less
    go i q r false t = let one : i ≡ j = omega (arith, ltb-false i j t) in rw one (get_or-set_same marks j v 0 p ∙ e)

pub marked_end : (rd : Reader) (c j n : ℕ) (marks : List ℕ) → n ≤ j → Marked rd c marks j → Marked rd c marks n
marked_end rd c j n marks h marked = record { holds = λ i p q. marked.holds i p (omega arith) }

-- A member by its key: the records that it is made of.
occurs_not : (c : ℕ) (t : Tree) → occurs c (¬ᵗ t) ≡ occurs c t
unfolding occurs is_constant
occurs_not c t = go (occurs c t)
  where
    go : (b : Bool) → elim b as (λ x. Bool) [ true ↦ true | false ↦ false ] ≡ b
    go true = refl
    go false = refl

occurs_equal : (c : ℕ) (t u : Tree) → occurs c (t =ᵗ u) ≡ either (occurs c t) (occurs c u)
unfolding occurs is_constant either
occurs_equal c t u = go (occurs c t) (occurs c u)
  where
    go : (a b : Bool) → elim a as (λ x. Bool) [ true ↦ true | false ↦ elim b [ true ↦ true | false ↦ false ] ] ≡ either a b
    go true b = refl
    go false true = refl
    go false false = refl

module _ (rd : Reader) (c n k : ℕ) (normal : Normal rd n k) where
  body_occurs : occurs c (body rd (k / 2)) ≡ either (occurs c (tree rd (left_of (k / 2)))) (occurs c (tree rd (right_of (k / 2))))
  unfolding either occurs
  body_occurs = by_one (equation_of (k / 2))
      (λ h. rw (body_equation rd (k / 2) h) (occurs_equal c (tree rd (left_of (k / 2))) (tree rd (right_of (k / 2)))))
      (λ h. rw (body_single rd (k / 2) h, normal.bodied.one_tree h, tree_zero rd) (go (occurs c (tree rd (left_of (k / 2))))))
    where
      go : (b : Bool) → b ≡ either b false
      go true = refl
      go false = refl

  member_occurs : occurs c (decoded rd k) ≡ either (occurs c (tree rd (k / 4 / 4096))) (occurs c (tree rd (k / 4 % 4096)))
  unfolding left_of right_of
  member_occurs =
      let l : k / 4 / 4096 ≡ left_of (k / 2) = omega arith in
      let r : k / 4 % 4096 ≡ right_of (k / 2) = omega arith in
      rw (l, r) (by_one (k % 2)
      (λ h. rw (decoded_negation rd k h, occurs_not c (body rd (k / 2))) body_occurs)
      (λ h. rw (decoded_plain rd k h) body_occurs))

  pub left_in : k / 4 / 4096 < n
  unfolding left_of
  left_in = omega (arith, normal.bodied.left_in)

  pub right_in : k / 4 % 4096 < n
  unfolding right_of
  right_in = omega (arith, normal.bodied.right_in)

  pub member_left : (t : Bool) → t ≡ occurs c (tree rd (k / 4 / 4096)) → t ≡ true → true ≡ occurs c (decoded rd k)
  unfolding either
  member_left t e h = rw member_occurs (simp (← e, h))

  pub member_right : (t : Bool) → t ≡ occurs c (tree rd (k / 4 / 4096)) → t ≡ false → (r : Bool) → r ≡ occurs c (tree rd (k / 4 % 4096)) → r ≡ occurs c (decoded rd k)
  unfolding either
  member_right t e h r q = rw member_occurs (simp (← e, h) q)

-- The ways out of `none_marked`.
fresh_cons : (c : ℕ) (u : Tree) (us : List Tree) → is_fresh (u ∷ us) c ≡ elim (not (occurs c u)) [ true ↦ is_fresh us c | false ↦ false ]
unfolding is_fresh every
fresh_cons c u us = refl

module _ (rd : Reader) (memory : List ℕ) (h c : ℕ) where
  pub fresh_start : is_fresh (sequent rd memory h) c ≡ is_fresh (members_from rd memory h 0) c
  unfolding sequent members_from
  fresh_start = refl

  module _ (i : ℕ) (inv : is_fresh (sequent rd memory h) c ≡ is_fresh (members_from rd memory h i) c) where
    module _ (lt : i < length (take h memory)) (r : Bool) (e : r ≡ occurs c (decoded rd (get_or (take h memory) i 0))) where
      pub fresh_stop : r ≡ true → false ≡ is_fresh (sequent rd memory h) c
      fresh_stop q = rw (inv, members_next rd memory h (decoded rd 0) i lt, fresh_cons) (simp (← e, q))

      pub fresh_more : r ≡ false → is_fresh (sequent rd memory h) c ≡ is_fresh (members_from rd memory h (i + 1)) c
      fresh_more q = rw (inv, members_next rd memory h (decoded rd 0) i lt, fresh_cons) (simp (← e, q))

    pub fresh_end : length (take h memory) ≤ i → true ≡ is_fresh (sequent rd memory h) c
    unfolding is_fresh every members_from
    fresh_end end = rw (inv, drop_of_length-le (take h memory) {i = i} end)
