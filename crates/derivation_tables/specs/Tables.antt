-- What the rules 64 to 80 ask and make, as a table of numbers, and that the rows say the same.
use Rattle.std.specs.Prelude.{ℕ, zero, suc, ◌+◌, ◌*◌, ◌-◌, ◌/◌, ◌%◌, ◌<◌, ◌≤◌, ◌≡◌, List, [], ◌∷◌, ◌++◌, Bool, true, false, eqb, ltb, get_or, drop}
use Rattle.std.proofs.Math.Path.{refl}
use Rattle.std.proofs.Common.{sym, ap, ◌∙◌, arith, eqb-true, lt-ltb, ltb-true, ltb-false}
use Rattle.std.proofs.lemmas.Bool.{eqb-false}
use Rattle.reader.specs.Tests.{if_eq, if_lt}
use Rattle.reader.specs.TestLaws.{Rest, rest_past}
use Rattle.reader.specs.Down.{iter, down}
use Rattle.reader.specs.Trees.{Tree, same, first_of, second_of, ¬ᵗ◌}
use Rattle.reader.specs.Shapes.{Shape}
use Rattle.derivation_rules.specs.Rules.{State, row, premise}
use Rattle.reader.specs.Members.{part}
use Rattle.derivation_trees.specs.Shapes.{shape_of}
use Rattle.derivation_rules.specs.RowLaws.{NoRule, row_none, by_rule}
use Rattle.reader_bytes.specs.Bytes.{byte_of, parts_of}
use Rattle.derivation_bytes.specs.Bytes.{derivation_byte}
use Rattle.derivation_bytes.proofs.Rows.{parts_none}

-- A form names a tree of a node: 4 times the source and a step. Source 1 is the goal, from 2 on the parts; step 0 itself, 1 its first part, 2 its second,
-- 3 its negation. Form 0 is none.
unfoldable pub source_tree : List Tree → Tree → ℕ → Tree
source_tree ps goal w = if_lt w 2 goal (part ps (w - 2))

unfoldable pub step_tree : ℕ → Tree → Tree
step_tree a t = if_eq a 0 t (if_eq a 1 (first_of t) (if_eq a 2 (second_of t) (¬ᵗ t)))

unfoldable pub form_tree : List Tree → Tree → ℕ → Tree
form_tree ps goal form = step_tree (form % 4) (source_tree ps goal (form / 4))

-- n shapes as a number: a byte for each, the first's lowest.
unfoldable pub shapes_of : ℕ → ℕ → List Shape
shapes_of zero code = []
shapes_of (suc n) code = shape_of (code % 256) ∷ shapes_of n (code / 256)

-- Thirteen columns a rule: 0 shapes of the parts; 1 shape of the goal; 2 the most members that a premise adds; 3 form needed in the sequent;
-- 4 and 5 goal of premise 0 and the member that it adds; 6 and 7 the same of premise 1; 8 and 9 two forms that are equal;
-- 10 to 12 three forms, of which the first is the third with the second in place of index 0.
abbrev pub rules : List ℕ
rules =
    0 ∷ 0 ∷ 0 ∷ 4 ∷ 0 ∷ 0 ∷ 0 ∷ 0 ∷ 0 ∷ 0 ∷ 0 ∷ 0 ∷ 0 ∷  -- 64 BR1
    0 ∷ 0 ∷ 0 ∷ 0 ∷ 4 ∷ 0 ∷ 0 ∷ 0 ∷ 0 ∷ 0 ∷ 0 ∷ 0 ∷ 0 ∷  -- 65 BR2
    0 ∷ 0 ∷ 0 ∷ 4 ∷ 0 ∷ 0 ∷ 0 ∷ 0 ∷ 0 ∷ 0 ∷ 0 ∷ 0 ∷ 0 ∷  -- 66 BR3
    37 ∷ 0 ∷ 1 ∷ 0 ∷ 8 ∷ 0 ∷ 4 ∷ 8 ∷ 0 ∷ 0 ∷ 0 ∷ 0 ∷ 0 ∷  -- 67 BR4
    0 ∷ 78 ∷ 0 ∷ 0 ∷ 0 ∷ 0 ∷ 0 ∷ 0 ∷ 0 ∷ 0 ∷ 0 ∷ 0 ∷ 0 ∷  -- 68 BR6
    17 ∷ 0 ∷ 0 ∷ 0 ∷ 9 ∷ 0 ∷ 8 ∷ 0 ∷ 10 ∷ 4 ∷ 0 ∷ 0 ∷ 0 ∷  -- 69 MP
    0 ∷ 16 ∷ 0 ∷ 0 ∷ 5 ∷ 0 ∷ 6 ∷ 0 ∷ 0 ∷ 0 ∷ 0 ∷ 0 ∷ 0 ∷  -- 70 R1
    16 ∷ 0 ∷ 0 ∷ 0 ∷ 8 ∷ 0 ∷ 0 ∷ 0 ∷ 9 ∷ 4 ∷ 0 ∷ 0 ∷ 0 ∷  -- 71 R2
    16 ∷ 0 ∷ 0 ∷ 0 ∷ 8 ∷ 0 ∷ 0 ∷ 0 ∷ 10 ∷ 4 ∷ 0 ∷ 0 ∷ 0 ∷  -- 72 R2'
    0 ∷ 17 ∷ 1 ∷ 0 ∷ 6 ∷ 5 ∷ 0 ∷ 0 ∷ 0 ∷ 0 ∷ 0 ∷ 0 ∷ 0 ∷  -- 73 R3
    17 ∷ 0 ∷ 0 ∷ 9 ∷ 8 ∷ 0 ∷ 0 ∷ 0 ∷ 10 ∷ 4 ∷ 0 ∷ 0 ∷ 0 ∷  -- 74 R4
    37 ∷ 0 ∷ 1 ∷ 0 ∷ 8 ∷ 7 ∷ 11 ∷ 7 ∷ 0 ∷ 0 ∷ 0 ∷ 0 ∷ 0 ∷  -- 75 R5
    37 ∷ 18 ∷ 1 ∷ 0 ∷ 8 ∷ 5 ∷ 11 ∷ 5 ∷ 0 ∷ 0 ∷ 0 ∷ 0 ∷ 0 ∷  -- 76 R6
    9479 ∷ 19 ∷ 0 ∷ 0 ∷ 12 ∷ 0 ∷ 0 ∷ 0 ∷ 0 ∷ 0 ∷ 12 ∷ 8 ∷ 6 ∷  -- 77 R7
    9235 ∷ 0 ∷ 0 ∷ 0 ∷ 8 ∷ 0 ∷ 0 ∷ 0 ∷ 0 ∷ 0 ∷ 4 ∷ 12 ∷ 10 ∷  -- 78 R8
    2429989 ∷ 0 ∷ 0 ∷ 0 ∷ 12 ∷ 0 ∷ 16 ∷ 0 ∷ 0 ∷ 0 ∷ 16 ∷ 13 ∷ 8 ∷  -- 79 R9
    0 ∷ 20 ∷ 0 ∷ 0 ∷ 0 ∷ 0 ∷ 0 ∷ 0 ∷ 5 ∷ 6 ∷ 0 ∷ 0 ∷ 0 ∷ []  -- 80 R10

-- column w of rule k, 0 for no rule
unfoldable pub column : ℕ → ℕ → ℕ
column k w = if_lt k 64 0 (if_lt 80 k 0 (get_or rules (13 * (k - 64) + w) 0))

pub column_none : (k w : ℕ) → NoRule k → column k w ≡ 0
unfolding column if_lt
column_none k w h = go (ltb k 64) refl
  where
    past_by : 64 ≤ k → (b : Bool) → ltb 80 k ≡ b → 80 < k
    past_by z true e = ltb-true 80 k e
    past_by z false e = let y : k ≤ 80 = ltb-false 80 k e in absurd (h k z y refl)

    go : (b : Bool) → ltb k 64 ≡ b → ◌≡◌ {A = ℕ} (elim b [ true ↦ 0 | false ↦ elim (ltb 80 k) [ true ↦ 0 | false ↦ get_or rules (13 * (k - 64) + w) 0 ] ]) 0
    go true e = refl
    go false e = let z : 64 ≤ k = ltb-false k 64 e in simp (lt-ltb 80 k (past_by z (ltb 80 k) refl))

-- a list of one, or of none for number 0
unfoldable pub one_of : {A : Type 0} → (ℕ → A) → ℕ → List A
one_of f n = if_eq n 0 [] (f n ∷ [])

-- the members with one more, or with none for form 0
unfoldable pub grown : List Tree → List Tree → Tree → ℕ → List Tree
grown Γ ps goal form = if_eq form 0 Γ (Γ ++ (form_tree ps goal form ∷ []))

-- premises from a goal's form and an added member's, as far as there is a goal
unfoldable pub premises_from : List Tree → State → ℕ → ℕ → List State → List State
premises_from ps st g e rest = if_eq g 0 [] (premise st (grown st.members ps st.goal e) (form_tree ps st.goal g) ∷ rest)

-- the rows say what the table says
module _ (ps : List Tree) (st : State) where
  -- as many shapes as the byte says
  pub shapes_are : (k : ℕ) → (parts_of (derivation_byte k) ≡ 15 → ⊥) → (row k ps st).shapes ≡ shapes_of (parts_of (derivation_byte k)) (column k 0)
  unfolding row if_eq if_lt parts_of derivation_byte byte_of column shapes_of shape_of down iter
  shapes_are =
      by_rule (λ k. (parts_of (derivation_byte k) ≡ 15 → ⊥) → (row k ps st).shapes ≡ shapes_of (parts_of (derivation_byte k)) (column k 0))
      (λ h. refl) (λ h. absurd (h refl)) (λ h. refl) (λ h. refl) (λ h. refl) (λ h. refl) (λ h. refl) (λ h. refl) (λ h. refl) (λ h. refl) (λ h. refl) (λ h. refl) (λ h. refl) (λ h. refl) (λ h. refl) (λ h. refl) (λ h. refl)
      (λ k other h. rw (row_none k ps st other, ← parts_none k other) refl)

  pub goal_shapes_are : (k : ℕ) → (row k ps st).goal_shapes ≡ one_of shape_of (column k 1)
  unfolding row if_eq if_lt column one_of shape_of
  goal_shapes_are =
      by_rule (λ k. (row k ps st).goal_shapes ≡ one_of shape_of (column k 1))
      refl refl refl refl refl refl refl refl refl refl refl refl refl refl refl refl refl
      (λ k other. rw (row_none k ps st other, column_none k 1 other) refl)

  pub needs_are : (k : ℕ) → (k ≡ 65 → ⊥) → (row k ps st).needs ≡ one_of (form_tree ps st.goal) (column k 3)
  unfolding row if_eq if_lt column one_of form_tree step_tree source_tree
  needs_are =
      by_rule (λ k. (k ≡ 65 → ⊥) → (row k ps st).needs ≡ one_of (form_tree ps st.goal) (column k 3))
      (λ h. refl) (λ h. absurd (h refl)) (λ h. refl) (λ h. refl) (λ h. refl) (λ h. refl) (λ h. refl) (λ h. refl) (λ h. refl) (λ h. refl) (λ h. refl) (λ h. refl) (λ h. refl) (λ h. refl) (λ h. refl) (λ h. refl) (λ h. refl)
      (λ k other h. rw (row_none k ps st other, column_none k 3 other) refl)

  pub premises_are : (k : ℕ) → (k ≡ 65 → ⊥) →
      (row k ps st).premises ≡ premises_from ps st (column k 4) (column k 5) (premises_from ps st (column k 6) (column k 7) [])
  unfolding row if_eq if_lt column premises_from grown form_tree step_tree source_tree
  premises_are =
      by_rule (λ k. (k ≡ 65 → ⊥) → (row k ps st).premises ≡ premises_from ps st (column k 4) (column k 5) (premises_from ps st (column k 6) (column k 7) []))
      (λ h. refl) (λ h. absurd (h refl)) (λ h. refl) (λ h. refl) (λ h. refl) (λ h. refl) (λ h. refl) (λ h. refl) (λ h. refl) (λ h. refl) (λ h. refl) (λ h. refl) (λ h. refl) (λ h. refl) (λ h. refl) (λ h. refl) (λ h. refl)
      (λ k other h. rw (row_none k ps st other, column_none k 4 other) refl)

-- The ways out of the code that has the table's columns packed in numbers.

-- the two hexadecimal digits of n that have 2 j digits after them
unfoldable pub digit : ℕ → ℕ → ℕ
digit n zero = n % 256
digit n (suc j) = digit (n / 256) j

pub digit_last : (n j : ℕ) → j ≡ 0 → n % 256 ≡ digit n j
unfolding digit
digit_last n j h = rw h refl

pub digit_more : (n j r : ℕ) → (j ≡ 0 → ⊥) → r ≡ digit (n / 256) (j - 1) → r ≡ digit n j
unfolding digit
digit_more n zero r h e = absurd (h refl)
digit_more n (suc j) r h e = let less : suc j - 1 ≡ j = omega arith in e ∙ ap (digit (n / 256)) less

-- c of them, down to the last
unfoldable pub digits : ℕ → ℕ → List ℕ
digits n zero = []
digits n (suc c) = digit n c ∷ digits n c

-- c columns of rule k, from column a on
unfoldable pub columns : ℕ → ℕ → ℕ → List ℕ
columns k a zero = []
columns k a (suc c) = column k a ∷ columns k (a + 1) c

-- a number that has c columns, from column a on, has column w
pub column_at : (k n a c : ℕ) → digits n c ≡ columns k a c → (w : ℕ) → a ≤ w → w < a + c → digit n (a + c - 1 - w) ≡ column k w
unfolding digits columns
column_at k n a zero e w low high = absurd (omega arith)
column_at k n a (suc c) e w low high = go (eqb w a) refl (column_at k n (a + 1) c (ap (drop 1) e) w)
  where
    last : a + suc c - 1 - a ≡ c
    last = omega arith

    later : a + 1 + c - 1 - w ≡ a + suc c - 1 - w
    later = omega arith

    go : (b : Bool) → eqb w a ≡ b → (a + 1 ≤ w → w < a + 1 + c → digit n (a + 1 + c - 1 - w) ≡ column k w) → digit n (a + suc c - 1 - w) ≡ column k w
    go true t more = rw (eqb-true w a t, last) (ap (λ (l : List ℕ). get_or l 0 0) e)
    go false t more =
        let other : w ≡ a → ⊥ = eqb-false w a t in
        rw (← later) (more (omega arith) (omega arith))

-- the last arm: no rule has no columns
module _ (k : ℕ) (rest : Rest 64 k 17) where
  no_rule : NoRule k
  no_rule j low high same = omega (arith, rest_past 64 k 17 (omega arith) rest)

  pub shapes_rest : 0 ≡ column k 0
  shapes_rest = sym (column_none k 0 no_rule)

  pub front_rest : digits 0 7 ≡ columns k 1 7
  unfolding digits columns digit
  front_rest =
      rw (
        column_none k 1 no_rule,
        column_none k 2 no_rule,
        column_none k 3 no_rule,
        column_none k 4 no_rule,
        column_none k 5 no_rule,
        column_none k 6 no_rule,
        column_none k 7 no_rule,
      )

  pub back_rest : digits 0 5 ≡ columns k 8 5
  unfolding digits columns digit
  back_rest =
      rw (
        column_none k 8 no_rule,
        column_none k 9 no_rule,
        column_none k 10 no_rule,
        column_none k 11 no_rule,
        column_none k 12 no_rule,
      )
