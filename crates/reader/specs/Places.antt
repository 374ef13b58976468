-- The places of a file before the walk, refusals 1 to 12, for an obligation, a proof and a derivation.
use Rattle.std.specs.Prelude.{ℕ, zero, suc, ◌+◌, ◌%◌, List, [], ◌∷◌, Bool, true, false, eqb, leb, length}
use Rattle.reader.specs.declared.Answer.{Answer}
use Rattle.reader.specs.Words.{Reader, word_of, word, record_count}
use Rattle.reader.specs.Tests.{both, either, demand, every, if_eq, if_true}
use Rattle.reader.specs.Kinds.{modes, kinds, formulaᶜ, class, is_rule}
use Rattle.reader.specs.Trees.{Tree, tree, kind_of, atom_of, first_of}
use Rattle.reader.specs.Chains.{linked, item_trees, premises}
use Rattle.reader.specs.Variables.{indices_below, types_below, is_closed}
use Rattle.reader.specs.Records.{record_fault}
use Rattle.reader.specs.Answers.{placed, or_answer, first_fault}

-- "over 1,024 records (obligation), 3,073 (proof), 200,001 (derivation), header counted", by the kind of file
unfoldable pub most_records : ℕ → ℕ
most_records mode = if_eq mode modes.proof 3073 (if_eq mode modes.derivation 200001 1024)

-- "1 under 16 bytes, no multiple of 16, or over" the limit
unfoldable pub length_fits : ℕ → List ℕ → Bool
length_fits mode s = both (leb 16 (length s)) (both (eqb (length s % 16) 0) (leb (record_count s) (most_records mode)))

-- "The first is the header: 1, the count n of the records after it"; "2 first word not 1, a wrong count"
unfoldable pub header_fits : List ℕ → Bool
header_fits s = both (eqb (word_of s 0 0) 1) (eqb (word_of s 0 1 + 1) (record_count s))

-- "An obligation's two words: head of the hypothesis chain (0 if none), the negated goal."
abbrev pub hypothesis_chain : Reader → ℕ
hypothesis_chain rd = rd 0 2

abbrev pub negated_goal : Reader → ℕ
negated_goal rd = rd 0 3

-- the hypotheses, in the order of their chain
abbrev pub hypotheses : Reader → List Tree
hypotheses rd = item_trees rd (hypothesis_chain rd)

-- "the formula under the ¬ that the obligation's header names"
abbrev pub goal : Reader → Tree
goal rd = first_of (tree rd (negated_goal rd))

-- the count n of a file's own header
abbrev pub count_of : List ℕ → ℕ
count_of s = word_of s 0 1

-- "A proof's or derivation's: root node, the obligation's count m"
abbrev pub root_of : List ℕ → ℕ
root_of s = word_of s 0 2

-- "or wrong m"
unfoldable pub counts_fit : List ℕ → List ℕ → Bool
counts_fit obligation s = both (header_fits s) (eqb (word_of s 0 3) (count_of obligation))

-- "goal not a closed ¬": a record out of range reads as kind 0, and record 0 is the header, of kind 1, so both meet 11 here
unfoldable pub goal_fits : Reader → Bool
goal_fits rd = both (eqb (rd (negated_goal rd) 0) kinds.not) (is_closed (tree rd (negated_goal rd)))

-- a hypothesis is a formula, or for all types
unfoldable pub is_hypothesis : Tree → Bool
is_hypothesis t = either (eqb (class (kind_of t)) formulaᶜ) (eqb (kind_of t) kinds.for_all_types)

-- how many type variables a hypothesis may have: the count of kind 22, and none in a formula
unfoldable pub type_count : Tree → ℕ
type_count t = if_eq (kind_of t) kinds.for_all_types (atom_of t) 0

-- "hypothesis of wrong class", "hypothesis not closed, type variables at or past its count"
unfoldable pub hypothesis_fits : Tree → Bool
hypothesis_fits t = both (is_hypothesis t) (both (indices_below 0 t) (types_below (type_count t) t))

-- "chain head out of range", "or of wrong class"; "over 256 hypotheses"
unfoldable pub hypotheses_fit : Reader → Bool
hypotheses_fit rd =
    elim (eqb (hypothesis_chain rd) 0) [
      | true ↦ true
      | false ↦ both (eqb (rd (hypothesis_chain rd) 0) kinds.link)
          (both (every hypothesis_fits (item_trees rd (hypothesis_chain rd))) (leb (length (linked rd (hypothesis_chain rd))) 256))
    ]

-- how often r is in a list
unfoldable pub times_in : ℕ → List ℕ → ℕ
times_in r [] = 0
times_in r (x ∷ xs) = if_eq x r 1 0 + times_in r xs

-- how often the premise chains of the rule nodes among records 1 to j name record r
unfoldable pub namings : ℕ → Reader → ℕ → ℕ → ℕ
namings mode rd r zero = 0
namings mode rd r (suc j) = elim (is_rule mode (rd (suc j) 0)) [ true ↦ times_in r (premises rd (suc j)) | false ↦ 0 ] + namings mode rd r j

-- "12 not named exactly once, counting premise chains of nodes and the header's root": record i of records 1 to `last`
unfoldable pub naming_fault : ℕ → Reader → ℕ → ℕ → ℕ → ℕ
naming_fault mode rd root last i =
    if_true (is_rule mode (rd i 0)) (demand (eqb (if_eq root i 1 0 + namings mode rd i last) 1) 12 0) 0

-- "the obligation through all of its places first"
unfoldable pub obligation_reading : List ℕ → Answer
obligation_reading ob =
    or_answer (placed (demand (length_fits modes.obligation ob) 1 0) 1 0)
    (or_answer (placed (demand (header_fits ob) 2 0) 1 0)
    (or_answer (first_fault (record_fault modes.obligation (word ob [] (count_of ob))) 1 (count_of ob) 1)
    (placed (demand (both (goal_fits (word ob [] (count_of ob))) (hypotheses_fit (word ob [] (count_of ob)))) 11 0) 1 0)))

-- the second file, of kind `mode`, beside its obligation
unfoldable pub second_reading : ℕ → List ℕ → List ℕ → Answer
second_reading mode ob s =
    or_answer (placed (demand (length_fits mode s) 1 0) 2 0)
    (or_answer (placed (demand (counts_fit ob s) 2 0) 2 0)
    (or_answer (first_fault (record_fault mode (word ob s (count_of ob))) 2 (count_of s) (count_of ob + 1))
    (or_answer (placed (demand (is_rule mode (word ob s (count_of ob) (root_of s) 0)) 11 0) 2 0)
    (first_fault (naming_fault mode (word ob s (count_of ob)) (root_of s) (count_of ob + count_of s)) 2 (count_of s) (count_of ob + 1)))))

-- places 1 to 12 of an obligation and a second file of kind `mode`
unfoldable pub reading : ℕ → List ℕ → List ℕ → Answer
reading mode ob s = or_answer (obligation_reading ob) (second_reading mode ob s)
