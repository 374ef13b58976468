-- The answers of reading, places 1 to 12, are bounded.
use Rattle.std.specs.Prelude.{ℕ, zero, suc, ◌+◌, ◌<◌, ◌≤◌, ◌≡◌, refl, List, [], Bool, true, false, eqb}
use Rattle.std.proofs.Common.{arith, eqb-true}
use Rattle.reader.specs.declared.Answer.{Answer}
use Rattle.reader.specs.Words.{Reader, word}
use Rattle.reader.specs.Tests.{demand, or_else, if_eq, if_true, both}
use Rattle.reader.specs.Kinds.{is_rule}
use Rattle.reader.specs.Records.{words_fault, content_fault, record_fault}
use Rattle.reader.specs.Answers.{answer, accepted, placed, or_answer, first_fault}
use Rattle.reader.specs.Places.{most_records, length_fits, header_fits, counts_fit, goal_fits, hypotheses_fit, root_of, count_of}
use Rattle.reader.specs.Places.{namings, naming_fault, obligation_reading, second_reading, reading}
use Rattle.reader_laws.specs.Scan.{placed_parts}
use Rattle.reader_laws.specs.File.{obligation_parts, length_parts, header_parts, counts_parts}
use Rattle.favashears_bounds.specs.Bounds.{Bounded}

-- Numbers of tests.

pub demand_most : (most : ℕ) (t : Bool) (n rest : ℕ) → n ≤ most → rest ≤ most → demand t n rest ≤ most
unfolding demand
demand_most most true n rest p q = q
demand_most most false n rest p q = p

else_most : (most a b : ℕ) → a ≤ most → b ≤ most → or_else a b ≤ most
unfolding or_else
else_most most a b p q = go (eqb a 0)
  where
    go : (t : Bool) → (elim t as (λ x. ℕ) [ true ↦ b | false ↦ a ]) ≤ most
    go true = q
    go false = p

record_most : (mode : ℕ) (rd : Reader) (i : ℕ) → record_fault mode rd i ≤ 19
unfolding record_fault words_fault content_fault
record_most mode rd i =
    else_most 19 (words_fault mode rd i) (content_fault mode rd i)
    (demand_most 19 _ 3 _ (omega arith)
    (demand_most 19 _ 4 _ (omega arith) (demand_most 19 _ 5 _ (omega arith) (demand_most 19 _ 6 0 (omega arith) (omega arith)))))
    (demand_most 19 _ 7 _ (omega arith)
    (demand_most 19 _ 8 _ (omega arith) (demand_most 19 _ 9 _ (omega arith) (demand_most 19 _ 10 0 (omega arith) (omega arith)))))

naming_most : (mode : ℕ) (rd : Reader) (root last i : ℕ) → naming_fault mode rd root last i ≤ 19
unfolding naming_fault if_true
naming_most mode rd root last i = go (is_rule mode (rd i 0))
  where
    go : (t : Bool) → (elim t as (λ x. ℕ) [ true ↦ demand (eqb (if_eq root i 1 0 + namings mode rd i last) 1) 12 0 | false ↦ 0 ]) ≤ 19
    go true = demand_most 19 _ 12 0 (omega arith) (omega arith)
    go false = omega arith

-- Answers.

none_bounded : Bounded (accepted 0)
none_bounded = record { refusal_at_most = omega arith; file_at_most = omega arith; record_below = omega arith; nodes_below = omega arith }

pub or_bounded : (a b : Answer) → Bounded a → (a.refusal ≡ 0 → Bounded b) → Bounded (or_answer a b)
unfolding or_answer
or_bounded a b p q = go (eqb a.refusal 0) refl
  where
    go : (t : Bool) → eqb a.refusal 0 ≡ t → Bounded (elim t as (λ x. Answer) [ true ↦ b | false ↦ a ])
    go true e = q (eqb-true a.refusal 0 e)
    go false e = p

placed_bounded : (r f : ℕ) → r ≤ 19 → f ≤ 2 → Bounded (placed r f 0)
unfolding placed
placed_bounded r f p q = go (eqb r 0)
  where
    go : (t : Bool) → Bounded (elim t as (λ x. Answer) [ true ↦ accepted 0 | false ↦ answer r f 0 0 ])
    go true = none_bounded
    go false = record { refusal_at_most = p; file_at_most = q; record_below = omega arith; nodes_below = omega arith }

-- a test of a whole file
test_bounded : (t : Bool) (n f : ℕ) → n ≤ 19 → f ≤ 2 → Bounded (placed (demand t n 0) f 0)
test_bounded t n f p q = placed_bounded (demand t n 0) f (demand_most 19 t n 0 p (omega arith)) q

-- records, rising
first_bounded : (fault : ℕ → ℕ) (f k i : ℕ) → ((j : ℕ) → fault j ≤ 19) → f ≤ 2 → i + k < 16777216 → Bounded (first_fault fault f k i)
unfolding first_fault
first_bounded fault f zero i most q few = none_bounded
first_bounded fault f (suc k) i most q few = go (first_bounded fault f k (i + 1) most q (omega arith)) (eqb (fault i) 0)
  where
    go : Bounded (first_fault fault f k (i + 1)) → (t : Bool) →
        Bounded (elim t as (λ x. Answer) [ true ↦ first_fault fault f k (i + 1) | false ↦ answer (fault i) f i 0 ])
    go rest true = rest
    go rest false = record { refusal_at_most = most i; file_at_most = q; record_below = omega arith; nodes_below = omega arith }

-- Files.

-- how many records a file has at most
obligation_few : (ob : List ℕ) → length_fits 0 ob ≡ true → header_fits ob ≡ true → count_of ob ≤ 1023
unfolding most_records if_eq
obligation_few ob l h =
    let most = (length_parts 0 ob l).2 in
    let count = (header_parts ob h).1 in
    omega (arith, most, count)

obligation_bounded : (ob : List ℕ) → Bounded (obligation_reading ob)
unfolding obligation_reading
obligation_bounded ob =
    or_bounded _ _ (test_bounded (length_fits 0 ob) 1 1 (omega arith) (omega arith))
    (λ l. or_bounded _ _ (test_bounded (header_fits ob) 2 1 (omega arith) (omega arith))
    (λ h. or_bounded _ _
    (first_bounded (record_fault 0 (word ob [] (count_of ob))) 1 (count_of ob) 1 (record_most 0 (word ob [] (count_of ob))) (omega arith)
    (omega (arith, obligation_few ob (placed_parts (length_fits 0 ob) 1 1 0 l refl) (placed_parts (header_fits ob) 2 1 0 h refl))))
    (λ r. test_bounded (both (goal_fits (word ob [] (count_of ob))) (hypotheses_fit (word ob [] (count_of ob)))) 11 1 (omega arith) (omega arith))))

module _ (mode : ℕ) (few : most_records mode ≤ 200001) (ob s : List ℕ) (own : count_of ob ≤ 1023) where
  second_few : length_fits mode s ≡ true → counts_fit ob s ≡ true → count_of s ≤ 200000
  second_few l c =
      let most = (length_parts mode s l).2 in
      let count = (header_parts s (counts_parts ob s c).0).1 in
      omega (arith, most, count, few)

  second_bounded : Bounded (second_reading mode ob s)
  unfolding second_reading
  second_bounded =
      or_bounded _ _ (test_bounded (length_fits mode s) 1 2 (omega arith) (omega arith))
      (λ l. or_bounded _ _ (test_bounded (counts_fit ob s) 2 2 (omega arith) (omega arith))
      (λ c.
      let n : count_of s ≤ 200000 = second_few (placed_parts (length_fits mode s) 1 2 0 l refl) (placed_parts (counts_fit ob s) 2 2 0 c refl) in
      or_bounded _ _
      (first_bounded (record_fault mode (word ob s (count_of ob))) 2 (count_of s) (count_of ob + 1) (record_most mode (word ob s (count_of ob))) (omega arith)
      (omega arith))
      (λ r. or_bounded _ _ (test_bounded (is_rule mode (word ob s (count_of ob) (root_of s) 0)) 11 2 (omega arith) (omega arith))
      (λ q. first_bounded (naming_fault mode (word ob s (count_of ob)) (root_of s) (count_of ob + count_of s)) 2 (count_of s) (count_of ob + 1)
      (naming_most mode (word ob s (count_of ob)) (root_of s) (count_of ob + count_of s)) (omega arith) (omega arith)))))

-- places 1 to 12 of both files
pub reading_bounded : (mode : ℕ) → most_records mode ≤ 200001 → (ob s : List ℕ) → Bounded (reading mode ob s)
unfolding reading
reading_bounded mode few ob s =
    or_bounded _ _ (obligation_bounded ob)
    (λ o. let r = obligation_parts ob o in second_bounded mode few ob s (obligation_few ob r.length_of r.header))
