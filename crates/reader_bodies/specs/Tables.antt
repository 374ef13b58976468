-- What the tables hold after the places behind a header: those of the records and their names, where the answer is one of a later place too.
use Rattle.std.specs.Prelude.{ℕ, zero, suc, ◌+◌, ◌-◌, ◌<◌, ◌≤◌, ◌≡◌, refl, List, ◌++◌, Bool, true, false, eqb, ltb, length, take, drop}
use Rattle.std.proofs.Common.{sym, ap, ◌∙◌, length-take, arith}
use Rattle.std.proofs.lemmas.Bool.{eqb-false}
use Rattle.reader.specs.declared.Answer.{Answer}
use Rattle.reader.specs.Words.{Reader}
use Rattle.reader.specs.Tests.{demand, if_eq, if_lt, if_true}
use Rattle.reader.specs.Kinds.{is_rule}
use Rattle.reader.specs.Answers.{answer, placed, or_answer, first_fault}
use Rattle.reader.specs.Places.{namings, naming_fault}
use Rattle.reader_names.specs.Taken.{Names}
use Rattle.reader_equality.specs.Tables.{zeros_take, zeros_drop, zeros_join}
use Rattle.reader_naming.specs.Totals.{Cleared}
use Rattle.reader_records.specs.Tables.{at_record, end_of, looked_up, names_to, Weighed, record_past, weighed_then}
use Rattle.reader_bodies.specs.Places.{root_and_naming}

-- no refusal, or one of a place after the records
abbrev pub Late : ℕ → Type 0
Late w = (w ≡ 0 → ⊥) → 11 ≤ w

pub late_none : (w : ℕ) → w ≡ 0 → Late w
late_none w e n = absurd (n e)

pub late_refused : (q : Answer) (f : ℕ) → q ≡ answer 11 f 0 0 → Late q.refusal
late_refused q f e n = let w : q.refusal ≡ 11 = ap (λ (x : Answer). x.refusal) e in omega arith

late_first : (fault : ℕ → ℕ) (f k i : ℕ) → ((j : ℕ) → Late (fault j)) → Late (first_fault fault f k i).refusal
unfolding first_fault
late_first fault f zero i h = late_none 0 refl
late_first fault f (suc k) i h = go (eqb (fault i) 0) (late_first fault f k (i + 1) h)
  where
    go : (b : Bool) → Late (first_fault fault f k (i + 1)).refusal →
        Late (elim b as (λ x. Answer) [ true ↦ first_fault fault f k (i + 1) | false ↦ answer (fault i) f i 0 ]).refusal
    go true rest = rest
    go false rest = h i

late_naming : (mode : ℕ) (rd : Reader) (root last i : ℕ) → Late (naming_fault mode rd root last i)
unfolding naming_fault if_true demand
late_naming mode rd root last i = go (is_rule mode (rd i 0)) (eqb (if_eq root i 1 0 + namings mode rd i last) 1)
  where
    go : (a b : Bool) → Late (elim a as (λ x. ℕ) [ true ↦ elim b as (λ x. ℕ) [ true ↦ 0 | false ↦ 12 ] | false ↦ 0 ])
    go true true = late_none 0 refl
    go true false = λ n. omega arith
    go false b = late_none 0 refl

pub late_root : (mode : ℕ) (rd : Reader) (root m last : ℕ) (q : Answer) → q ≡ root_and_naming mode rd root m last → Late q.refusal
unfolding root_and_naming or_answer placed demand
late_root mode rd root m last q e = rw e (go (is_rule mode (rd root 0)))
  where
    go : (b : Bool) → Late (or_answer (placed (demand b 11 0) 2 0) (first_fault (naming_fault mode rd root last) 2 (last - m) (m + 1))).refusal
    go true = late_first (naming_fault mode rd root last) 2 (last - m) (m + 1) (late_naming mode rd root last)
    go false = λ n. omega arith

-- records without a refusal, and then a later place: the tables are those of the records
module _ (rd : Reader) (r q : Answer) (first last : ℕ) (z : r.refusal ≡ 0) (late : Late q.refusal) where
  all_read : (v w e : ℕ) → at_record r v e ≡ at_record q w e
  all_read v w e = record_past r v e (late_none r.refusal z) ∙ sym (record_past q w e late)

  pub names_on : (slots : List ℕ) → Names rd slots (names_to r first last) → Names rd slots (names_to q first last)
  unfolding names_to
  names_on slots names = rw (← all_read (looked_up r.refusal r.at) (looked_up q.refusal q.at) (first + (last + 1 - first))) names

  pub weights_on : (before after : List ℕ) → Weighed rd before after (end_of r first last) → Weighed rd before after (end_of q first last)
  unfolding end_of
  weights_on before after o = rw (← all_read r.at q.at (first + (last + 1 - first))) o

-- the reading of records ends at none before the first
at_least : (fault : ℕ → ℕ) (f k i : ℕ) → ((first_fault fault f k i).refusal ≡ 0 → ⊥) → i ≤ (first_fault fault f k i).at
unfolding first_fault
at_least fault f zero i n = absurd (n refl)
at_least fault f (suc k) i n = go (eqb (fault i) 0) (at_least fault f k (i + 1)) n
  where
    go : (b : Bool) → (((first_fault fault f k (i + 1)).refusal ≡ 0 → ⊥) → i + 1 ≤ (first_fault fault f k (i + 1)).at) →
        ((elim b as (λ x. Answer) [ true ↦ first_fault fault f k (i + 1) | false ↦ answer (fault i) f i 0 ]).refusal ≡ 0 → ⊥) →
        i ≤ (elim b as (λ x. Answer) [ true ↦ first_fault fault f k (i + 1) | false ↦ answer (fault i) f i 0 ]).at
    go true rest some = omega (arith, rest some)
    go false rest some = omega arith

end_least : (fault : ℕ → ℕ) (f first last : ℕ) (r : Answer) → r ≡ first_fault fault f (last + 1 - first) first → first ≤ end_of r first last
unfolding end_of at_record if_eq if_lt
end_least fault f first last r e = go (eqb r.refusal 0) refl (ltb r.refusal 11)
  where
    go : (b : Bool) → eqb r.refusal 0 ≡ b → (t : Bool) →
        first ≤ elim b as (λ x. ℕ) [ true ↦ first + (last + 1 - first) | false ↦ elim t as (λ x. ℕ) [ true ↦ r.at | false ↦ first + (last + 1 - first) ] ]
    go true p t = omega arith
    go false p true =
        let least : first ≤ (first_fault fault f (last + 1 - first) first).at =
        at_least fault f (last + 1 - first) first (λ z. eqb-false r.refusal 0 p (ap (λ (x : Answer). x.refusal) e ∙ z)) in
        rw e least
    go false p false = omega arith

-- the weights of the records of an obligation, and then of those after it
pub weights_then : (fault : ℕ → ℕ) (f : ℕ) (rd : Reader) (before table after : List ℕ) (first last : ℕ) (r : Answer) → r ≡ first_fault fault f (last + 1 - first) first →
    Weighed rd before table first → Weighed rd table after (end_of r first last) → Weighed rd before after (end_of r first last)
weights_then fault f rd before table after first last r e = weighed_then rd before table after first (end_of r first last) (end_least fault f first last r e)

-- the count of a second file's records, as the code read it
module _ (rd : Reader) (m w n : ℕ) (e : w ≡ n) (r : Answer) where
  pub names_counted : (slots : List ℕ) → Names rd slots (names_to r (m + 1) (m + w)) → Names rd slots (names_to r (m + 1) (m + n))
  names_counted slots names = rw (← e) names

  pub weights_counted : (before after : List ℕ) → Weighed rd before after (end_of r (m + 1) (m + w)) → Weighed rd before after (end_of r (m + 1) (m + n))
  weights_counted before after o = rw (← e) o

-- a part of a table is lent
pub part_long : (n last : ℕ) (table : List ℕ) → n ≡ last + 1 → last < length table → last < length (take n table)
part_long n last table e h = omega (arith, length-take n table)

pub cleared_part : (n : ℕ) (table : List ℕ) → Cleared table → Cleared (take n table)
cleared_part n table z = record { zeros = (zeros_take n table (record { zeros = z.zeros })).zeros }

pub cleared_back : (n : ℕ) (table part : List ℕ) → Cleared table → Cleared part → Cleared (part ++ drop n table)
cleared_back n table part z y = record { zeros = (zeros_join part (drop n table) (record { zeros = y.zeros }) (zeros_drop n table (record { zeros = z.zeros }))).zeros }
