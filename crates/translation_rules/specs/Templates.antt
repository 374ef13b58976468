-- The templates of the translation: for each proof rule the records of its block, in letters, and those of the start. The last record of a block is its
-- concluding node, which derives ⊥ from the proof node's sequent, types removed; `[a; b]` are premises.
use Rattle.std.specs.Prelude.{ℕ, List, [], ◌∷◌}
use Rattle.reader.specs.Tests.{if_eq}
use Rattle.reader.specs.Kinds.{kinds}

-- What a word of a block's record stands for.
pub data Cell : Type 0 where
  -- 0: no reference, or index 0
  none : Cell
  -- the record of part j
  part : ℕ → Cell
  -- word w of the record of part 0
  inside : ℕ → Cell
  -- word 1 of the record that word 1 of part 0's record names
  deeper : Cell
  -- the type's record of the term that word 1 of part 0's record names
  type_inside : Cell
  -- the node itself, whose place has a record of ⊥
  bottom : Cell
  -- record r of the block
  own : ℕ → Cell
  -- the concluding node of premise j
  conclusion : ℕ → Cell

-- a record of a block: its kind, and its words 1 to 3
pub record Line : Type 0 where
  pub kind : ℕ
  pub first : Cell
  pub second : Cell
  pub third : Cell

abbrev line : ℕ → Cell → Cell → Cell → Line
line k a b c = record { kind = k; first = a; second = b; third = c }

-- a link: its item, the next link
abbrev link : Cell → Cell → Line
link item next = line kinds.link item none next

-- a rule node of a derivation: its chains of parts and premises
abbrev node : ℕ → Cell → Cell → Line
node k parts premises = line k parts premises none

-- a rule node without parts and premises
abbrev closing : ℕ → Line
closing k = node k none none

-- the start: R5 ⊥ [root; BR6]
abbrev pub lines_of_start : List Line
lines_of_start =
    link bottom none ∷  -- 0
    closing 68 ∷  -- 1
    link (own 1) none ∷  -- 2
    link (conclusion 0) (own 2) ∷  -- 3
    node 75 (own 0) (own 3) ∷ []  -- 4

-- 32  BR3
abbrev pub lines32 : List Line
lines32 =
    closing 66 ∷ []  -- 0

-- 33  R5 ¬⊥ [BR3; BR3]
abbrev pub lines33 : List Line
lines33 =
    line kinds.not bottom none none ∷  -- 0
    link (own 0) none ∷  -- 1
    closing 66 ∷  -- 2
    closing 66 ∷  -- 3
    link (own 3) none ∷  -- 4
    link (own 2) (own 4) ∷  -- 5
    node 75 (own 1) (own 5) ∷ []  -- 6

-- 34  R5 P [BR3; BR3]
abbrev pub lines34 : List Line
lines34 =
    link (part 0) none ∷  -- 0
    closing 66 ∷  -- 1
    closing 66 ∷  -- 2
    link (own 2) none ∷  -- 3
    link (own 1) (own 3) ∷  -- 4
    node 75 (own 0) (own 4) ∷ []  -- 5

-- 35  R5 t=t [R10; BR3]
abbrev pub lines35 : List Line
lines35 =
    link (inside 1) none ∷  -- 0
    closing 80 ∷  -- 1
    closing 66 ∷  -- 2
    link (own 2) none ∷  -- 3
    link (own 1) (own 3) ∷  -- 4
    node 75 (own 0) (own 4) ∷ []  -- 5

-- 36  R5 u=t [R9 (index 0 = t), (t=u), (t=t) [BR3; R10]; BR3]
abbrev pub lines36 : List Line
lines36 =
    line kinds.equal (inside 2) (inside 1) none ∷  -- 0
    line kinds.equal (inside 1) (inside 1) none ∷  -- 1
    line kinds.bound_variable none type_inside none ∷  -- 2
    line kinds.equal (own 2) (inside 1) none ∷  -- 3
    link (own 1) none ∷  -- 4
    link (part 0) (own 4) ∷  -- 5
    link (own 3) (own 5) ∷  -- 6
    closing 66 ∷  -- 7
    closing 80 ∷  -- 8
    link (own 8) none ∷  -- 9
    link (own 7) (own 9) ∷  -- 10
    node 79 (own 6) (own 10) ∷  -- 11
    link (own 0) none ∷  -- 12
    closing 66 ∷  -- 13
    link (own 13) none ∷  -- 14
    link (own 11) (own 14) ∷  -- 15
    node 75 (own 12) (own 15) ∷ []  -- 16

-- 37  BR4 ¬P [R6 ⊥ [premise 0; BR6]; premise 1]
abbrev pub lines37 : List Line
lines37 =
    line kinds.not (part 0) none none ∷  -- 0
    link bottom none ∷  -- 1
    closing 68 ∷  -- 2
    link (own 2) none ∷  -- 3
    link (conclusion 0) (own 3) ∷  -- 4
    node 76 (own 1) (own 4) ∷  -- 5
    link (own 0) none ∷  -- 6
    link (conclusion 1) none ∷  -- 7
    link (own 5) (own 7) ∷  -- 8
    node 67 (own 6) (own 8) ∷ []  -- 9

-- 38  BR4 P [R5 ¬P [BR3; BR3]; premise 0]
abbrev pub lines38 : List Line
lines38 =
    link (inside 1) none ∷  -- 0
    closing 66 ∷  -- 1
    closing 66 ∷  -- 2
    link (own 2) none ∷  -- 3
    link (own 1) (own 3) ∷  -- 4
    node 75 (own 0) (own 4) ∷  -- 5
    link deeper none ∷  -- 6
    link (conclusion 0) none ∷  -- 7
    link (own 5) (own 7) ∷  -- 8
    node 67 (own 6) (own 8) ∷ []  -- 9

-- 39  BR4 P [R2 [BR3]; BR4 Q [R2' [BR3]; premise 0]]
abbrev pub lines39 : List Line
lines39 =
    link (part 0) none ∷  -- 0
    closing 66 ∷  -- 1
    link (own 1) none ∷  -- 2
    node 71 (own 0) (own 2) ∷  -- 3
    closing 66 ∷  -- 4
    link (own 4) none ∷  -- 5
    node 72 (own 0) (own 5) ∷  -- 6
    link (inside 2) none ∷  -- 7
    link (conclusion 0) none ∷  -- 8
    link (own 6) (own 8) ∷  -- 9
    node 67 (own 7) (own 9) ∷  -- 10
    link (inside 1) none ∷  -- 11
    link (own 10) none ∷  -- 12
    link (own 3) (own 12) ∷  -- 13
    node 67 (own 11) (own 13) ∷ []  -- 14

-- 40  BR4 P⇒Q [R3 [R5 ⊥ [premise 0; BR6]]; R5 P⇒Q [BR3; BR3]]
abbrev pub lines40 : List Line
lines40 =
    link bottom none ∷  -- 0
    closing 68 ∷  -- 1
    link (own 1) none ∷  -- 2
    link (conclusion 0) (own 2) ∷  -- 3
    node 75 (own 0) (own 3) ∷  -- 4
    link (own 4) none ∷  -- 5
    node 73 none (own 5) ∷  -- 6
    link (inside 1) none ∷  -- 7
    closing 66 ∷  -- 8
    closing 66 ∷  -- 9
    link (own 9) none ∷  -- 10
    link (own 8) (own 10) ∷  -- 11
    node 75 (own 7) (own 11) ∷  -- 12
    link (own 12) none ∷  -- 13
    link (own 6) (own 13) ∷  -- 14
    node 67 (own 7) (own 14) ∷ []  -- 15

-- 41  BR4 Q [MP P⇒Q [R5 ⊥ [premise 0; BR6]; BR3]; premise 1]
abbrev pub lines41 : List Line
lines41 =
    link bottom none ∷  -- 0
    closing 68 ∷  -- 1
    link (own 1) none ∷  -- 2
    link (conclusion 0) (own 2) ∷  -- 3
    node 75 (own 0) (own 3) ∷  -- 4
    closing 66 ∷  -- 5
    link (part 0) none ∷  -- 6
    link (own 5) none ∷  -- 7
    link (own 4) (own 7) ∷  -- 8
    node 69 (own 6) (own 8) ∷  -- 9
    link (inside 2) none ∷  -- 10
    link (conclusion 1) none ∷  -- 11
    link (own 9) (own 11) ∷  -- 12
    node 67 (own 10) (own 12) ∷ []  -- 13

-- 42  BR4 P∧Q [R1 [R5 ⊥ [premise 0; BR6]; R5 ⊥ [premise 1; BR6]]; R5 P∧Q [BR3; BR3]]
abbrev pub lines42 : List Line
lines42 =
    link bottom none ∷  -- 0
    closing 68 ∷  -- 1
    link (own 1) none ∷  -- 2
    link (conclusion 0) (own 2) ∷  -- 3
    node 75 (own 0) (own 3) ∷  -- 4
    closing 68 ∷  -- 5
    link (own 5) none ∷  -- 6
    link (conclusion 1) (own 6) ∷  -- 7
    node 75 (own 0) (own 7) ∷  -- 8
    link (own 8) none ∷  -- 9
    link (own 4) (own 9) ∷  -- 10
    node 70 none (own 10) ∷  -- 11
    link (inside 1) none ∷  -- 12
    closing 66 ∷  -- 13
    closing 66 ∷  -- 14
    link (own 14) none ∷  -- 15
    link (own 13) (own 15) ∷  -- 16
    node 75 (own 12) (own 16) ∷  -- 17
    link (own 17) none ∷  -- 18
    link (own 11) (own 18) ∷  -- 19
    node 67 (own 12) (own 19) ∷ []  -- 20

-- 43  BR4 ∀B [R7 c, B(c) [R5 ⊥ [premise 0; BR6]]; R5 ∀B [BR3; BR3]]
abbrev pub lines43 : List Line
lines43 =
    link bottom none ∷  -- 0
    closing 68 ∷  -- 1
    link (own 1) none ∷  -- 2
    link (conclusion 0) (own 2) ∷  -- 3
    node 75 (own 0) (own 3) ∷  -- 4
    link (part 2) none ∷  -- 5
    link (part 1) (own 5) ∷  -- 6
    link (own 4) none ∷  -- 7
    node 77 (own 6) (own 7) ∷  -- 8
    link (inside 1) none ∷  -- 9
    closing 66 ∷  -- 10
    closing 66 ∷  -- 11
    link (own 11) none ∷  -- 12
    link (own 10) (own 12) ∷  -- 13
    node 75 (own 9) (own 13) ∷  -- 14
    link (own 14) none ∷  -- 15
    link (own 8) (own 15) ∷  -- 16
    node 67 (own 9) (own 16) ∷ []  -- 17

-- 44  BR4 B(t) [R8 ∀B, t [BR3]; premise 0]
abbrev pub lines44 : List Line
lines44 =
    link (part 1) none ∷  -- 0
    link (part 0) (own 0) ∷  -- 1
    closing 66 ∷  -- 2
    link (own 2) none ∷  -- 3
    node 78 (own 1) (own 3) ∷  -- 4
    link (part 2) none ∷  -- 5
    link (conclusion 0) none ∷  -- 6
    link (own 4) (own 6) ∷  -- 7
    node 67 (own 5) (own 7) ∷ []  -- 8

-- 45  BR4 instance [BR3; premise 0]
abbrev pub lines45 : List Line
lines45 =
    link (part 1) none ∷  -- 0
    closing 66 ∷  -- 1
    link (conclusion 0) none ∷  -- 2
    link (own 1) (own 2) ∷  -- 3
    node 67 (own 0) (own 3) ∷ []  -- 4

-- 46  BR4 B(u) [R9 B, (t=u), B(t) [R5 ⊥ [premise 0; BR6]; BR3]; premise 1]
abbrev pub lines46 : List Line
lines46 =
    line kinds.equal (part 1) (part 2) none ∷  -- 0
    link bottom none ∷  -- 1
    closing 68 ∷  -- 2
    link (own 2) none ∷  -- 3
    link (conclusion 0) (own 3) ∷  -- 4
    node 75 (own 1) (own 4) ∷  -- 5
    closing 66 ∷  -- 6
    link (part 3) none ∷  -- 7
    link (own 0) (own 7) ∷  -- 8
    link (part 0) (own 8) ∷  -- 9
    link (own 6) none ∷  -- 10
    link (own 5) (own 10) ∷  -- 11
    node 79 (own 9) (own 11) ∷  -- 12
    link (part 4) none ∷  -- 13
    link (conclusion 1) none ∷  -- 14
    link (own 12) (own 14) ∷  -- 15
    node 67 (own 13) (own 15) ∷ []  -- 16

-- the template of rule kind k; no record where k is no rule of a proof
unfoldable pub template : ℕ → List Line
template k =
    if_eq k 32 lines32
    (if_eq k 33 lines33
    (if_eq k 34 lines34
    (if_eq k 35 lines35
    (if_eq k 36 lines36
    (if_eq k 37 lines37
    (if_eq k 38 lines38
    (if_eq k 39 lines39
    (if_eq k 40 lines40
    (if_eq k 41 lines41
    (if_eq k 42 lines42
    (if_eq k 43 lines43
    (if_eq k 44 lines44
    (if_eq k 45 lines45
    (if_eq k 46 lines46 []))))))))))))))
