-- The records of the derivation that is written: the proof's own, each rule node replaced by ⊥, then a block for each rule node in rising order, then
-- the start's block. The proof's records are m + 1 to m + n.
use Rattle.std.specs.Prelude.{ℕ, zero, suc, ◌+◌, ◌-◌, ◌<◌, ◌≤◌, ◌≡◌, List, [], ◌∷◌, true, get_or, length}
use Rattle.reader.specs.Words.{Reader}
use Rattle.reader.specs.Tests.{if_eq, if_true}
use Rattle.reader.specs.Kinds.{modes, kinds, is_rule}
use Rattle.reader.specs.Chains.{parts, premises}
use Rattle.translation_rules.specs.Templates.{Cell, none, part, inside, deeper, type_inside, bottom, own, conclusion, Line, template, lines_of_start}

-- the record of the type of the term at record x, where its kind is k
unfoldable pub type_record_by : ℕ → Reader → ℕ → ℕ
type_record_by k rd x =
    if_eq k kinds.constant (rd x 1)
    (if_eq k kinds.bound_variable (rd x 2)
    (if_eq k kinds.pair (rd x 3)
    (if_eq k kinds.product (rd x 3) (if_eq k kinds.powerset (rd x 2) (if_eq k kinds.choice (rd x 2) (rd (rd x 2) 1))))))

-- the record of the type of the term at record x
unfoldable pub type_record : Reader → ℕ → ℕ
type_record rd x = type_record_by (rd x 0) rd x

-- What the letters of a block stand for: the node, its parts and premises, where the block starts, and where the block of a node ends.
pub record Letters : Type 0 where
  pub node : ℕ
  pub parts_of : List ℕ
  pub premises_of : List ℕ
  pub base : ℕ
  pub ends : ℕ → ℕ

unfoldable pub value : Reader → Letters → Cell → ℕ
value rd l none = 0
value rd l (part j) = get_or l.parts_of j 0
value rd l (inside w) = rd (get_or l.parts_of 0 0) w
value rd l deeper = rd (rd (get_or l.parts_of 0 0) 1) 1
value rd l type_inside = type_record rd (rd (get_or l.parts_of 0 0) 1)
value rd l bottom = l.node
value rd l (own r) = l.base + r
value rd l (conclusion j) = l.ends (get_or l.premises_of j 0)

-- word w of a line
unfoldable pub line_word : Reader → Letters → Line → ℕ → ℕ
line_word rd l x w =
    if_eq w 0 x.kind (if_eq w 1 (value rd l x.first) (if_eq w 2 (value rd l x.second) (if_eq w 3 (value rd l x.third) 0)))

-- no line
abbrev pub no_line : Line
no_line = record { kind = 0; first = none; second = none; third = none }

-- the records of the block at `base` are these lines
abbrev pub Block : Reader → Reader → Letters → List Line → Type 0
Block rd ro l lines = (r w : ℕ) → r < length lines → ro (l.base + r) w ≡ line_word rd l (get_or lines r no_line) w

-- how many records the block of record i has; none for a record that is no rule node
unfoldable pub size : Reader → ℕ → ℕ
size rd i = if_true (is_rule modes.proof (rd i 0)) (length (template (rd i 0))) 0

-- how many records the blocks of records m + 1 to m + c have
unfoldable pub before : Reader → ℕ → ℕ → ℕ
before rd m zero = 0
before rd m (suc c) = before rd m c + size rd (m + suc c)

-- where the block of record i starts, and the concluding node at its end
unfoldable pub base_of : Reader → ℕ → ℕ → ℕ → ℕ
base_of rd m n i = m + n + 1 + before rd m (i - (m + 1))

unfoldable pub end_of : Reader → ℕ → ℕ → ℕ → ℕ
end_of rd m n i = base_of rd m n i + size rd i - 1

-- where the start's block starts, its concluding node, and the last record
unfoldable pub start_of : Reader → ℕ → ℕ → ℕ
start_of rd m n = m + n + 1 + before rd m n

-- the derivation's count of records
unfoldable pub written : Reader → ℕ → ℕ → ℕ
written rd m n = n + before rd m n + 5

abbrev pub letters_of : Reader → ℕ → ℕ → ℕ → Letters
letters_of rd m n i = record {
  node = i;
  parts_of = parts rd i;
  premises_of = premises rd i;
  base = base_of rd m n i;
  ends = end_of rd m n;
}

abbrev pub letters_of_start : Reader → ℕ → ℕ → ℕ → Letters
letters_of_start rd m n root = record {
  node = root;
  parts_of = [];
  premises_of = root ∷ [];
  base = start_of rd m n;
  ends = end_of rd m n;
}

-- the proof's own records, each rule node replaced by ⊥
unfoldable pub copied : Reader → Reader
copied rd i w = if_true (is_rule modes.proof (rd i 0)) (if_eq w 0 kinds.false 0) (rd i w)

-- A reader of the obligation and the derivation has the records of the translation of the proof that rd reads beside the obligation.
pub record Translated (rd ro : Reader) (m n root : ℕ) : Type 0 where
  pub copies : (i w : ℕ) → i ≤ m + n → ro i w ≡ copied rd i w
  pub blocks : (i : ℕ) → m < i → i ≤ m + n → is_rule modes.proof (rd i 0) ≡ true → Block rd ro (letters_of rd m n i) (template (rd i 0))
  pub start : Block rd ro (letters_of_start rd m n root) lines_of_start
