-- The ways out of the code for the places, one after the other.
use Rattle.std.specs.Prelude.{ℕ, ◌+◌, ◌*◌, ◌-◌, ◌<◌, ◌≤◌, ◌≡◌, List, [], Bool, true, false, not, eqb, ltb, length, get_or, replicate, Err}
use Rattle.std.proofs.Math.Path.{refl, ap}
use Rattle.std.proofs.Common.{sym, ◌∙◌}
use Rattle.std.proofs.lemmas.List.{length-replicate, get_or-replicate}
use Rattle.std.proofs.Math.ListN.{get_or-eq_default}
use native.Mathlib.Omega.{arith}
use borrow.Author.Tests.{not-true, not-false, ne_eqb, ltb-true, ltb-false}
use Rattle.reader.specs.declared.Answer.{Answer}
use Rattle.reader.specs.declared.Fault.{Fault}
use Rattle.reader.specs.declared.Refusal.{Refusal}
use Rattle.reader.specs.Refusals.{number_of, reading_of}
use Rattle.reader.specs.Words.{Reader, word_of, word, record_count}
use Rattle.reader.specs.Tests.{demand, if_eq}
use Rattle.reader.specs.Kinds.{is_rule}
use Rattle.reader.specs.Answers.{answer, accepted, placed, or_answer, first_fault}
use Rattle.reader.specs.Records.{record_fault}
use Rattle.reader_names.specs.Taken.{Room}
use Rattle.reader.specs.Places.{most_records, length_fits, header_fits, counts_fit, count_of, root_of, naming_fault, obligation_reading, second_reading}
use Rattle.reader.specs.AnswerLaws.{answer_stop, answer_go}
use Rattle.reader_weights.specs.Weights.{Filled, filled_one, file_of}
use Rattle.reader_equality.specs.Tables.{Zeros}
use Rattle.reader_naming.specs.Totals.{Cleared}
use Rattle.reader_headers.specs.Headers.{records_most, count_is, count_below, counts_in}
use Rattle.reader_headers.specs.Roots.{roots_fit}

-- a refusal of a whole file, as the answer's numbers
pub refused_is : (q : Refusal) (k : Fault) (f : ℕ) → q ≡ record { fault = k; file = f; at = 0; nodes = 0 } → reading_of (Err q) ≡ answer (number_of k) f 0 0
refused_is q k f e = ap (λ (x : Refusal). reading_of (Err x)) e

-- a table whose entry 0 is 0
pub record Blank (table : List ℕ) : Type 0 where
  pub first : get_or table 0 0 ≡ 0

pub blank_filled : (rd : Reader) (table : List ℕ) → Blank table → Filled rd table 1
blank_filled rd table b = filled_one rd table b.first

-- One place with a test: refusal n in file f at record 0.
module _ (a t : Bool) (n f : ℕ) (et : t ≡ a) (some : eqb n 0 ≡ false) where
  pub place_stop : (rest : Answer) → not t ≡ true → answer n f 0 0 ≡ or_answer (placed (demand a n 0) f 0) rest
  unfolding or_answer placed demand
  place_stop rest h = simp (or_answer, placed, demand, ← et, not-true t h, some)

  pub place_last : not t ≡ true → answer n f 0 0 ≡ placed (demand a n 0) f 0
  unfolding placed demand
  place_last h = simp (placed, demand, ← et, not-true t h, some)

pub place_go : (a t : Bool) (n f : ℕ) (r rest : Answer) → t ≡ a → not t ≡ false → r ≡ rest → r ≡ or_answer (placed (demand a n 0) f 0) rest
unfolding or_answer placed demand
place_go a t n f r rest et h e = simp (or_answer, placed, demand, ← et, not-false t h) e

pub place_end : (a t : Bool) (n f : ℕ) → t ≡ a → not t ≡ false → accepted 0 ≡ placed (demand a n 0) f 0
unfolding placed demand
place_end a t n f et h = simp (placed, demand, ← et, not-false t h)

-- the records and the roots of an obligation
unfoldable pub records_and_roots : Reader → ℕ → Answer
records_and_roots rd m = or_answer (first_fault (record_fault 0 rd) 1 m 1) (placed (demand (roots_fit rd) 11 0) 1 0)

-- the root and the naming of a second file
unfoldable pub root_and_naming : ℕ → Reader → ℕ → ℕ → ℕ → Answer
root_and_naming mode rd root m last =
    or_answer (placed (demand (is_rule mode (rd root 0)) 11 0) 2 0) (first_fault (naming_fault mode rd root last) 2 (last - m) (m + 1))

-- The ways out of `obligation_body`.
module _ (rd : Reader) (m : ℕ) (r : Answer) (er : r ≡ first_fault (record_fault 0 rd) (file_of 0) (m + 1 - 1) 1) where
  records_are : r ≡ first_fault (record_fault 0 rd) 1 m 1
  unfolding file_of if_eq
  records_are = let e : m + 1 - 1 ≡ m = omega arith in er ∙ ap (λ (n : ℕ). first_fault (record_fault 0 rd) 1 n 1) e

  pub body_records : (r.refusal ≡ 0 → ⊥) → r ≡ records_and_roots rd m
  unfolding records_and_roots
  body_records h = answer_stop (first_fault (record_fault 0 rd) 1 m 1) _ r records_are h

  module _ (h : r.refusal ≡ 0) (t : Bool) (et : t ≡ roots_fit rd) (q : Answer) where
    pub body_roots : not t ≡ true → q ≡ answer 11 1 0 0 → q ≡ records_and_roots rd m
    unfolding records_and_roots
    body_roots n e = answer_go (first_fault (record_fault 0 rd) 1 m 1) _ r q records_are h (e ∙ place_last (roots_fit rd) t 11 1 et refl n)

    pub body_passed : not t ≡ false → q ≡ accepted 0 → q ≡ records_and_roots rd m
    unfolding records_and_roots
    body_passed n e = answer_go (first_fault (record_fault 0 rd) 1 m 1) _ r q records_are h (e ∙ place_end (roots_fit rd) t 11 1 et n)

-- The ways out of `obligation_reading`.
module _ (ob : List ℕ) (t : Bool) (et : t ≡ length_fits 0 ob) where
  pub obligation_length : not t ≡ true → (q : Answer) → q ≡ answer 1 1 0 0 → q ≡ obligation_reading ob
  unfolding obligation_reading
  obligation_length h q e = e ∙ place_stop (length_fits 0 ob) t 1 1 et refl _ h

  module _ (long : not t ≡ false) (u : Bool) (eu : u ≡ header_fits ob) where
    pub obligation_header : not u ≡ true → (q : Answer) → q ≡ answer 2 1 0 0 → q ≡ obligation_reading ob
    unfolding obligation_reading
    obligation_header h q e = place_go (length_fits 0 ob) t 1 1 q _ et long (e ∙ place_stop (header_fits ob) u 2 1 eu refl _ h)

    module _ (fits : not u ≡ false) (m : ℕ) (em : m ≡ word_of ob 0 1) where
      pub obligation_small : m < 1024
      unfolding most_records if_eq
      obligation_small = omega (arith, count_below 0 ob (sym et ∙ not-false t long) (sym eu ∙ not-false u fits))

      pub obligation_rest : (q : Answer) → q ≡ records_and_roots (word ob [] m) m → q ≡ obligation_reading ob
      unfolding obligation_reading records_and_roots roots_fit
      obligation_rest q e = place_go (length_fits 0 ob) t 1 1 q _ et long (place_go (header_fits ob) u 2 1 q _ eu fits (rw em at e))

-- The ways out of `root_and_naming`.
module _ (mode : ℕ) (rd : Reader) (root m last : ℕ) (x k : ℕ) (ex : x ≡ root) (ek : k ≡ rd x 0) (t : Bool) (et : t ≡ is_rule mode k) (q : Answer) where
  root_test : t ≡ is_rule mode (rd root 0)
  root_test = et ∙ ap (is_rule mode) (ek ∙ ap (λ (n : ℕ). rd n 0) ex)

  pub root_stop : not t ≡ true → q ≡ answer 11 2 0 0 → q ≡ root_and_naming mode rd root m last
  unfolding root_and_naming
  root_stop h e = e ∙ place_stop (is_rule mode (rd root 0)) t 11 2 root_test refl _ h

  pub root_go : not t ≡ false → q ≡ first_fault (naming_fault mode rd root last) 2 (last - m) (m + 1) → q ≡ root_and_naming mode rd root m last
  unfolding root_and_naming
  root_go h e = place_go (is_rule mode (rd root 0)) t 11 2 q _ root_test h e

-- the records, the root and the naming of a second file of n records after its header
unfoldable pub second_body : ℕ → Reader → ℕ → ℕ → ℕ → Answer
second_body mode rd m n root = or_answer (first_fault (record_fault mode rd) 2 n (m + 1)) (root_and_naming mode rd root m (m + n))

-- The ways out of `second_body`.
module _ (mode : ℕ) (rd : Reader) (m n root w last : ℕ) (second : 0 < mode) (ew : w ≡ n) (el : last ≡ m + w) (r : Answer)
    (er : r ≡ first_fault (record_fault mode rd) (file_of mode) (last + 1 - (m + 1)) (m + 1)) where
  second_records : r ≡ first_fault (record_fault mode rd) 2 n (m + 1)
  unfolding file_of if_eq
  second_records =
      let e : last + 1 - (m + 1) ≡ n = omega arith in
      let f : file_of mode ≡ 2 = simp (file_of, if_eq, ne_eqb mode 0 (omega arith)) in
      er ∙ ap (λ (k : ℕ). first_fault (record_fault mode rd) k (last + 1 - (m + 1)) (m + 1)) f
      ∙ ap (λ (k : ℕ). first_fault (record_fault mode rd) 2 k (m + 1)) e

  pub second_stop : (r.refusal ≡ 0 → ⊥) → r ≡ second_body mode rd m n root
  unfolding second_body
  second_stop h = answer_stop (first_fault (record_fault mode rd) 2 n (m + 1)) _ r second_records h

  pub second_go : r.refusal ≡ 0 → (q : Answer) → q ≡ root_and_naming mode rd root m last → q ≡ second_body mode rd m n root
  unfolding second_body
  second_go h q e =
      let same : last ≡ m + n = omega arith in
      answer_go (first_fault (record_fault mode rd) 2 n (m + 1)) _ r q second_records h (rw same at e)

-- tables that have room for every record of an obligation and of second file s, if that is no longer than one of kind `mode` may be
pub record Roomy (mode : ℕ) (s slots table named passed : List ℕ) : Type 0 where
  pub symbols : record_count s ≤ most_records mode → 4096 + 2 * (1023 + record_count s) ≤ length slots
  pub weights : record_count s ≤ most_records mode → 1023 + record_count s ≤ length table
  pub names : record_count s ≤ most_records mode → 1023 + record_count s ≤ length named
  pub links : record_count s ≤ most_records mode → 1023 + record_count s ≤ length passed

-- so that there are slots for each of them
most_few : (mode : ℕ) → most_records mode ≤ 200001
unfolding most_records if_eq
most_few mode = go (eqb mode 1) (eqb mode 2)
  where
    go : (a b : Bool) → elim a as (λ x. ℕ) [ true ↦ 3073 | false ↦ elim b [ true ↦ 200001 | false ↦ 1024 ] ] ≤ 200001
    go true b = omega arith
    go false true = omega arith
    go false false = omega arith

pub room_fits : (mode : ℕ) (s slots table named passed : List ℕ) (n : ℕ) → Roomy mode s slots table named passed → record_count s ≤ most_records mode →
    n < 1023 + record_count s → Room slots n
room_fits mode s slots table named passed n roomy most h = record { room = omega (arith, roomy.symbols most); small = omega (arith, most_few mode) }

-- The ways out of `second_reading`.
module _ (mode : ℕ) (ob s : List ℕ) (t : Bool) (et : t ≡ length_fits mode s) where
  pub reading_length : not t ≡ true → (q : Answer) → q ≡ answer 1 2 0 0 → q ≡ second_reading mode ob s
  unfolding second_reading
  reading_length h q e = e ∙ place_stop (length_fits mode s) t 1 2 et refl _ h

  module _ (long : not t ≡ false) (u : Bool) (eu : u ≡ counts_fit ob s) where
    pub reading_header : not u ≡ true → (q : Answer) → q ≡ answer 2 2 0 0 → q ≡ second_reading mode ob s
    unfolding second_reading
    reading_header h q e = place_go (length_fits mode s) t 1 2 q _ et long (e ∙ place_stop (counts_fit ob s) u 2 2 eu refl _ h)

    module _ (fits : not u ≡ false) (m : ℕ) where
      pub reading_small : m < 1024 → (record_count s ≤ most_records mode) × (m + count_of s < 1023 + record_count s)
      reading_small h =
          (records_most mode s (sym et ∙ not-false t long), omega (arith, count_is s (counts_in ob s (sym eu ∙ not-false u fits))))

      pub reading_rest : m ≡ count_of ob → (q : Answer) → q ≡ second_body mode (word ob s m) m (count_of s) (root_of s) → q ≡ second_reading mode ob s
      unfolding second_reading second_body root_and_naming
      reading_rest em q e =
          let n : count_of ob + count_of s - count_of ob ≡ count_of s = omega arith in
          place_go (length_fits mode s) t 1 2 q _ et long (place_go (counts_fit ob s) u 2 2 q _ eu fits (rw n at (rw em at e)))

-- an obligation that passes has at most 1,023 records
pub passed_small : (ob : List ℕ) (r : Answer) (m : ℕ) → r ≡ obligation_reading ob → r.refusal ≡ 0 → m ≡ word_of ob 0 1 → m < 1024
unfolding obligation_reading or_answer placed demand most_records if_eq
passed_small ob r m er h em = go (length_fits 0 ob) refl (header_fits ob) refl
  where
    go : (a : Bool) → length_fits 0 ob ≡ a → (b : Bool) → header_fits ob ≡ b → m < 1024
    go true p true q = omega (arith, count_below 0 ob p q)
    go true p false q =
        let e : r ≡ answer 2 1 0 0 = er ∙ simp (obligation_reading, or_answer, placed, demand, p, q) in
        absurd (omega (arith, sym (ap (λ (x : Answer). x.refusal) e) ∙ h))
    go false p b q =
        let e : r ≡ answer 1 1 0 0 = er ∙ simp (obligation_reading, or_answer, placed, demand, p) in
        absurd (omega (arith, sym (ap (λ (x : Answer). x.refusal) e) ∙ h))

-- a table of n zeros
abbrev pub zeros : ℕ → List ℕ
zeros n = replicate n 0

pub zeros_cleared : (n : ℕ) → Cleared (zeros n)
zeros_cleared n = record { zeros = λ r. go r (ltb r n) refl }
  where
    go : (r : ℕ) (b : Bool) → ltb r n ≡ b → get_or (zeros n) r 0 ≡ 0
    go r true e = get_or-replicate n r 0 0 (ltb-true r n e)
    go r false e = let past : length (zeros n) ≤ r = omega (arith, length-replicate {A = ℕ} n 0, ltb-false r n e) in get_or-eq_default (zeros n) 0 past

pub zeros_blank : (n : ℕ) → Blank (zeros n)
zeros_blank n = record { first = (zeros_cleared n).zeros 0 }

pub zeros_zeros : (n : ℕ) → Zeros (zeros n)
zeros_zeros n = record { zeros = (zeros_cleared n).zeros }

zeros_roomy : (mode n k most : ℕ) (s : List ℕ) → (record_count s ≤ most_records mode → record_count s ≤ most) → 1023 + most ≤ n → 4096 + 2 * (1023 + most) ≤ k →
    Roomy mode s (zeros k) (zeros n) (zeros n) (zeros n)
zeros_roomy mode n k most s few h g =
    let e : length (zeros n) ≡ n = length-replicate {A = ℕ} n 0 in
    let f : length (zeros k) ≡ k = length-replicate {A = ℕ} k 0 in
    let room : record_count s ≤ most_records mode → 1023 + record_count s ≤ length (zeros n) = λ p. rw e (omega (arith, few p)) in
    record { symbols = λ p. rw f (omega (arith, few p)); weights = room; names = room; links = room }

pub room_for_proof : (s : List ℕ) → Roomy 1 s (zeros 12288) (zeros 4096) (zeros 4096) (zeros 4096)
unfolding most_records if_eq
room_for_proof s = zeros_roomy 1 4096 12288 3073 s (λ p. p) (omega arith) (omega arith)

-- a derivation of few records, and any
pub room_for_few : (s : List ℕ) → record_count s ≤ 3073 → Roomy 2 s (zeros 12288) (zeros 4096) (zeros 4096) (zeros 4096)
room_for_few s few = zeros_roomy 2 4096 12288 3073 s (λ p. few) (omega arith) (omega arith)

pub room_for_derivation : (s : List ℕ) → Roomy 2 s (zeros 406144) (zeros 201024) (zeros 201024) (zeros 201024)
unfolding most_records if_eq
room_for_derivation s = zeros_roomy 2 201024 406144 200001 s (λ p. p) (omega arith) (omega arith)
