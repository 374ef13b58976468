-- A pair of files is well formed exactly where places 1 to 12 accept it.
use Rattle.std.specs.Prelude.{ℕ, ◌%◌, ◌≤◌, ◌≡◌, refl, List, Bool, true, false, ◌⊎◌, eqb, leb, length}
use Rattle.std.proofs.Common.{ap, inl, inr, ⊎_elim, arith, eq-eqb, eqb-true, le-leb}
use Rattle.std.proofs.lemmas.Bool.{eqb-false}
use Rattle.reader.specs.declared.Answer.{Answer}
use Rattle.reader.specs.Words.{Reader, record_count}
use Rattle.reader.specs.Tests.{both, every, if_eq, if_lt}
use Rattle.reader.specs.Kinds.{class}
use Rattle.reader.specs.Trees.{Tree, kind_of, atom_of}
use Rattle.reader.specs.Chains.{linked, item_trees}
use Rattle.reader.specs.Answers.{accepted}
use Rattle.reader.specs.Places.{most_records, length_fits, header_fits, hypothesis_chain, root_of, count_of, counts_fit, goal_fits}
use Rattle.reader.specs.Places.{is_hypothesis, type_count, hypothesis_fits, hypotheses_fit, reading}
use Rattle.reader_laws.specs.Scan.{both_join, either_parts, when_equal, when_different}
use Rattle.reader_laws.specs.File.{alone, beside, last_of, ReadObligation, ReadSecond, reading_parts, reading_join}
use Rattle.reader_laws.specs.File.{length_parts, header_parts, counts_parts, goal_parts}
use Rattle.reader_laws.specs.File.{hypothesis_parts, hypotheses_link, each_hypothesis, hypotheses_limit}
use Rattle.reader_laws.specs.Pair.{goal_range, hypotheses_range, root_range}
use Rattle.reader_laws.specs.NotionLaws.{every_in, every_out, either_first, either_second}
use Rattle.reader_laws.specs.NotionLaws.{indices_in, indices_out, types_in, types_out, closed_in, closed_out}
use Rattle.reader_meaning.specs.WellFormed.{FewRecords, WholeRecords, Header, SecondHeader, Goal, Hypothesis, Hypotheses}
use Rattle.reader_meaning.specs.WellFormed.{WellFormedObligation, WellFormedSecond, WellFormedPair}
use Rattle.reader_meaning.proofs.TableLaws.{rule_in, rule_out}
use Rattle.reader_meaning.proofs.RecordLaws.{record_in, record_out}
use Rattle.reader_meaning.proofs.NamingLaws.{once_in, once_out}

-- lengths
few_in : (mode n : ℕ) → mode ≤ 2 → n ≤ most_records mode → FewRecords mode n
unfolding most_records if_eq
few_in mode n known h = go (eqb mode 1) refl (eqb mode 2) refl h
  where
    go : (a : Bool) → eqb mode 1 ≡ a → (b : Bool) → eqb mode 2 ≡ b →
        n ≤ elim a as (λ x. ℕ) [ true ↦ 3073 | false ↦ elim b as (λ x. ℕ) [ true ↦ 200001 | false ↦ 1024 ] ] → FewRecords mode n
    go true ea b eb h = FewRecords.proof (eqb-true mode 1 ea) (omega (arith, h))
    go false ea true eb h = FewRecords.derivation (eqb-true mode 2 eb) (omega (arith, h))
    go false ea false eb h = let p = eqb-false mode 1 ea in let q = eqb-false mode 2 eb in FewRecords.obligation (omega arith) (omega (arith, h))

few_out : {mode n : ℕ} → FewRecords mode n → n ≤ most_records mode
unfolding most_records if_eq
few_out {mode} {n} (FewRecords.obligation m h) = let e : most_records mode ≡ 1024 = ap most_records m in rw e h
few_out {mode} {n} (FewRecords.proof m h) = let e : most_records mode ≡ 3073 = ap most_records m in rw e h
few_out {mode} {n} (FewRecords.derivation m h) = let e : most_records mode ≡ 200001 = ap most_records m in rw e h

pub whole_out : (mode : ℕ) (s : List ℕ) → WholeRecords mode s → length_fits mode s ≡ true
unfolding length_fits
whole_out mode s w =
    both_join _ _ (le-leb 16 (length s) w.header)
    (both_join _ _ (eq-eqb (length s % 16) 0 w.whole) (le-leb (record_count s) (most_records mode) (few_out w.few)))

pub whole_in : (mode : ℕ) (s : List ℕ) → mode ≤ 2 → length_fits mode s ≡ true → WholeRecords mode s
whole_in mode s known h = let p = length_parts mode s h in record { header = p.0; whole = p.1; few = few_in mode (record_count s) known p.2 }

-- headers
pub header_in : (s : List ℕ) → header_fits s ≡ true → Header s
header_in s h = let p = header_parts s h in record { first = p.0; count = p.1 }

pub header_out : (s : List ℕ) → Header s → header_fits s ≡ true
unfolding header_fits
header_out s h = both_join _ _ (eq-eqb _ 1 h.first) (eq-eqb _ _ h.count)

-- hypotheses
plain_count : (t : Tree) → class (kind_of t) ≡ 5 → type_count t ≡ 0
unfolding type_count class if_lt
plain_count t h = when_different _ _ (kind_of t) 22 (λ e. let seven : class (kind_of t) ≡ 7 = ap class e in omega arith)

hypothesis_in : (t : Tree) → hypothesis_fits t ≡ true → Hypothesis t
unfolding is_hypothesis type_count
hypothesis_in t h =
    let p = hypothesis_parts t h in
    either_parts (eqb (class (kind_of t)) 5) _ p.0
    (λ e. let f = eqb-true _ 5 e in
    Hypothesis.formula f (record { no_index = indices_in 0 t p.1; no_type_variable = types_in 0 t (rw (plain_count t f) at p.2) }))
    (λ e. let k = eqb-true _ 22 e in
    Hypothesis.for_all_types k (indices_in 0 t p.1) (types_in (atom_of t) t (rw (when_equal (atom_of t) 0 (kind_of t) 22 k) at p.2)))

hypothesis_out : (t : Tree) → Hypothesis t → hypothesis_fits t ≡ true
unfolding hypothesis_fits is_hypothesis type_count
hypothesis_out t (Hypothesis.formula f c) =
    both_join _ _ (either_first _ (eqb (kind_of t) 22) (eq-eqb _ 5 f))
    (both_join _ _ (indices_out c.no_index) (rw (plain_count t f) (types_out c.no_type_variable)))
hypothesis_out t (Hypothesis.for_all_types k i v) =
    both_join _ _ (either_second (eqb (class (kind_of t)) 5) _ (eq-eqb _ 22 k))
    (both_join _ _ (indices_out i) (rw (when_equal (atom_of t) 0 (kind_of t) 22 k) (types_out v)))

-- what the header names
goal_in : (ob : List ℕ) → ReadObligation ob → Goal (alone ob) (count_of ob)
goal_in ob r =
    let range = goal_range ob r in
    let p = goal_parts (alone ob) r.goal in
    record { given = range.0; in_range = range.1; negation = p.0; closed = closed_in _ p.1 }

pub goal_out : (rd : Reader) (m : ℕ) → Goal rd m → goal_fits rd ≡ true
unfolding goal_fits
goal_out rd m g = both_join _ _ (eq-eqb _ 18 g.negation) (closed_out _ g.closed)

hypotheses_in : (ob : List ℕ) → ReadObligation ob → Hypotheses (alone ob) (count_of ob)
hypotheses_in ob r = record {
  in_range = hypotheses_range ob r;
  link = link (eqb (hypothesis_chain (alone ob)) 0) refl;
  each = every_in hypothesis_fits Hypothesis hypothesis_in _ (each_hypothesis (alone ob) r.hypotheses);
  at_most = hypotheses_limit (alone ob) r.hypotheses;
}
  where
    link : (b : Bool) → eqb (hypothesis_chain (alone ob)) 0 ≡ b → (hypothesis_chain (alone ob) ≡ 0) ⊎ (alone ob (hypothesis_chain (alone ob)) 0 ≡ 1)
    link true e = inl (eqb-true _ 0 e)
    link false e = inr (hypotheses_link (alone ob) r.hypotheses (eqb-false _ 0 e))

pub hypotheses_out : (rd : Reader) (m : ℕ) → Hypotheses rd m → hypotheses_fit rd ≡ true
unfolding hypotheses_fit
hypotheses_out rd m h = go (eqb (hypothesis_chain rd) 0) refl
  where
    link : (hypothesis_chain rd ≡ 0 → ⊥) → rd (hypothesis_chain rd) 0 ≡ 1
    link some = ⊎_elim {C = rd (hypothesis_chain rd) 0 ≡ 1} (λ z. absurd (some z)) (λ l. l) h.link

    go : (b : Bool) → eqb (hypothesis_chain rd) 0 ≡ b →
        ◌≡◌ {A = Bool}
        (elim b [
          | true ↦ true
          | false ↦ both (eqb (rd (hypothesis_chain rd) 0) 1)
              (both (every hypothesis_fits (item_trees rd (hypothesis_chain rd))) (leb (length (linked rd (hypothesis_chain rd))) 256))
        ]) true
    go true e = refl
    go false e =
        both_join _ _ (eq-eqb _ 1 (link (eqb-false _ 0 e)))
        (both_join _ _ (every_out hypothesis_fits Hypothesis hypothesis_out _ h.each) (le-leb _ 256 h.at_most))

-- the obligation
pub obligation_in : (ob : List ℕ) → ReadObligation ob → WellFormedObligation ob
obligation_in ob r = record {
  whole_records = whole_in 0 ob (omega arith) r.length_of;
  header = header_in ob r.header;
  records = λ i p q. record_in 0 (alone ob) i (r.sound i p q);
  goal = goal_in ob r;
  hypotheses = hypotheses_in ob r;
}

pub obligation_out : (ob : List ℕ) → WellFormedObligation ob → ReadObligation ob
obligation_out ob w = record {
  length_of = whole_out 0 ob w.whole_records;
  header = header_out ob w.header;
  sound = λ i p q. record_out 0 (alone ob) i p (w.records i p q);
  goal = goal_out (alone ob) (count_of ob) w.goal;
  hypotheses = hypotheses_out (alone ob) (count_of ob) w.hypotheses;
}

-- the second file
pub second_header_in : (ob s : List ℕ) → counts_fit ob s ≡ true → SecondHeader ob s
second_header_in ob s h = let c = counts_parts ob s h in record { header = header_in s c.0; count = c.1 }

pub second_header_out : (ob s : List ℕ) → SecondHeader ob s → counts_fit ob s ≡ true
unfolding counts_fit
second_header_out ob s h = both_join _ _ (header_out s h.header) (eq-eqb _ _ h.count)

pub second_in : (mode : ℕ) (ob s : List ℕ) → mode ≤ 2 → ReadObligation ob → ReadSecond mode ob s → WellFormedSecond mode ob s
second_in mode ob s known r t =
    let range = root_range mode ob s r t in
    record {
      whole_records = whole_in mode s known t.length_of;
      header = second_header_in ob s t.counts;
      records = λ i p q. record_in mode (beside ob s) i (t.sound i p q);
      root = record { after = range.0; in_range = range.1; rule = rule_in mode _ t.root };
      once = λ i p q k. once_in mode (beside ob s) (root_of s) (last_of ob s) i (t.once i p q (rule_out k));
    }

pub second_out : (mode : ℕ) (ob s : List ℕ) → WellFormedSecond mode ob s → ReadSecond mode ob s
second_out mode ob s w = record {
  length_of = whole_out mode s w.whole_records;
  counts = second_header_out ob s w.header;
  sound = λ i p q. record_out mode (beside ob s) i (omega arith) (w.records i p q);
  root = rule_out w.root.rule;
  once = λ i p q k. once_out (w.once i p q (rule_in mode _ k));
}

-- Places 1 to 12 accept an obligation and a second file exactly where the pair is well formed.
pub pair_in : (mode : ℕ) (ob s : List ℕ) → mode ≤ 2 → reading mode ob s ≡ accepted 0 → WellFormedPair mode ob s
pair_in mode ob s known h =
    let p = reading_parts mode ob s (ap (λ (a : Answer). a.refusal) h) in
    record { obligation = obligation_in ob p.0; second = second_in mode ob s known p.0 p.1 }

pub pair_out : (mode : ℕ) (ob s : List ℕ) → WellFormedPair mode ob s → reading mode ob s ≡ accepted 0
pair_out mode ob s w = reading_join mode ob s (obligation_out ob w.obligation) (second_out mode ob s w.second)
