-- What files give that pass places 1 to 12.
use Rattle.std.specs.Prelude.{ℕ, ◌+◌, ◌%◌, ◌≤◌, ◌≡◌, refl, List, [], Bool, true, false, eqb, leb, length}
use Rattle.std.proofs.Common.{sym, ap, ◌∙◌, arith, eq-eqb, eqb-true, leb-true}
use Rattle.std.proofs.lemmas.Bool.{eqb-false}
use Rattle.reader.specs.declared.Answer.{Answer}
use Rattle.reader.specs.Words.{Reader, word_of, word, record_count}
use Rattle.reader.specs.Tests.{both, demand, every, if_eq, if_true}
use Rattle.reader.specs.Kinds.{is_rule}
use Rattle.reader.specs.Trees.{Tree, tree}
use Rattle.reader.specs.Chains.{linked, item_trees}
use Rattle.reader.specs.TreeLaws.{linked_zero, items_zero}
use Rattle.reader.specs.Variables.{indices_below, types_below, is_closed}
use Rattle.reader.specs.Records.{record_fault}
use Rattle.reader.specs.Answers.{accepted}
use Rattle.reader.specs.Places.{most_records, length_fits, header_fits, hypothesis_chain, negated_goal, root_of, count_of, counts_fit, goal_fits, is_hypothesis}
use Rattle.reader.specs.Places.{type_count, hypothesis_fits, hypotheses_fit, namings, naming_fault, obligation_reading, second_reading, reading}
use Rattle.reader_laws.specs.Scan.{both_parts, both_join, demand_parts, demand_join, or_answer_parts, or_answer_join, placed_parts, placed_pass, scan_parts, scan_join, when_different, when_true}
use Rattle.reader_laws.specs.Record.{Sound, record_parts, record_join}

-- the records of an obligation by itself
abbrev pub alone : List ℕ → Reader
alone ob = word ob [] (count_of ob)

-- the records of an obligation and a second file through one numbering
abbrev pub beside : List ℕ → List ℕ → Reader
beside ob s = word ob s (count_of ob)

-- the number of the last record of the second file
abbrev pub last_of : List ℕ → List ℕ → ℕ
last_of ob s = count_of ob + count_of s

-- an obligation that passes all of its places
pub record ReadObligation (ob : List ℕ) : Type 0 where
  pub length_of : length_fits 0 ob ≡ true
  pub header : header_fits ob ≡ true
  pub sound : (i : ℕ) → 1 ≤ i → i ≤ count_of ob → Sound 0 (alone ob) i
  pub goal : goal_fits (alone ob) ≡ true
  pub hypotheses : hypotheses_fit (alone ob) ≡ true

-- a second file of kind `mode` that passes places 1 to 12 beside its obligation
pub record ReadSecond (mode : ℕ) (ob s : List ℕ) : Type 0 where
  pub length_of : length_fits mode s ≡ true
  pub counts : counts_fit ob s ≡ true
  pub sound : (i : ℕ) → count_of ob + 1 ≤ i → i ≤ last_of ob s → Sound mode (beside ob s) i
  pub root : is_rule mode (beside ob s (root_of s) 0) ≡ true
  pub once : (i : ℕ) → count_of ob + 1 ≤ i → i ≤ last_of ob s → is_rule mode (beside ob s i 0) ≡ true →
      if_eq (root_of s) i 1 0 + namings mode (beside ob s) i (last_of ob s) ≡ 1

-- a rule node without a naming fault is named exactly once
pub naming_parts : (mode : ℕ) (rd : Reader) (root last i : ℕ) → naming_fault mode rd root last i ≡ 0 → is_rule mode (rd i 0) ≡ true →
    if_eq root i 1 0 + namings mode rd i last ≡ 1
unfolding naming_fault
naming_parts mode rd root last i h r =
    eqb-true (if_eq root i 1 0 + namings mode rd i last) 1
    (demand_parts _ 12 0 (sym (when_true _ 0 (is_rule mode (rd i 0)) r) ∙ h) refl).0

pub naming_join : (mode : ℕ) (rd : Reader) (root last i : ℕ) → (is_rule mode (rd i 0) ≡ true → if_eq root i 1 0 + namings mode rd i last ≡ 1) →
    naming_fault mode rd root last i ≡ 0
unfolding naming_fault if_true
naming_join mode rd root last i h = go (is_rule mode (rd i 0)) h
  where
    go : (b : Bool) → (b ≡ true → if_eq root i 1 0 + namings mode rd i last ≡ 1) →
        ◌≡◌ {A = ℕ} (elim b [ true ↦ demand (eqb (if_eq root i 1 0 + namings mode rd i last) 1) 12 0 | false ↦ 0 ]) 0
    go true h = demand_join _ 12 0 (eq-eqb (if_eq root i 1 0 + namings mode rd i last) 1 (h refl)) refl
    go false h = refl

-- an obligation that is not refused
pub obligation_parts : (ob : List ℕ) → (obligation_reading ob).refusal ≡ 0 → ReadObligation ob
unfolding obligation_reading
obligation_parts ob h =
    let a = or_answer_parts _ _ h in
    let b = or_answer_parts _ _ a.1 in
    let c = or_answer_parts _ _ b.1 in
    let both_fit = both_parts (goal_fits (alone ob)) (hypotheses_fit (alone ob)) (placed_parts _ 11 1 0 c.1 refl) in
    record {
      length_of = placed_parts (length_fits 0 ob) 1 1 0 a.0 refl;
      header = placed_parts (header_fits ob) 2 1 0 b.0 refl;
      sound = λ i p q. record_parts 0 (alone ob) i (scan_parts (record_fault 0 (alone ob)) 1 (count_of ob) 1 c.0 i p (omega arith));
      goal = both_fit.0;
      hypotheses = both_fit.1;
    }

pub obligation_join : (ob : List ℕ) → ReadObligation ob → obligation_reading ob ≡ accepted 0
unfolding obligation_reading
obligation_join ob r =
    let a = placed_pass (length_fits 0 ob) 1 1 0 r.length_of in
    let b = placed_pass (header_fits ob) 2 1 0 r.header in
    let c = scan_join (record_fault 0 (alone ob)) 1 (count_of ob) 1 (λ j p q. record_join 0 (alone ob) j (r.sound j p (omega arith))) in
    let d = placed_pass (both (goal_fits (alone ob)) (hypotheses_fit (alone ob))) 11 1 0 (both_join _ _ r.goal r.hypotheses) in
    or_answer_join _ _ (ap (λ (x : Answer). x.refusal) a) ∙ or_answer_join _ _ (ap (λ (x : Answer). x.refusal) b)
    ∙ or_answer_join _ _ (ap (λ (x : Answer). x.refusal) c) ∙ d

-- a second file that is not refused
pub second_parts : (mode : ℕ) (ob s : List ℕ) → (second_reading mode ob s).refusal ≡ 0 → ReadSecond mode ob s
unfolding second_reading
second_parts mode ob s h =
    let a = or_answer_parts _ _ h in
    let b = or_answer_parts _ _ a.1 in
    let c = or_answer_parts _ _ b.1 in
    let d = or_answer_parts _ _ c.1 in
    record {
      length_of = placed_parts (length_fits mode s) 1 2 0 a.0 refl;
      counts = placed_parts (counts_fit ob s) 2 2 0 b.0 refl;
      sound = λ i p q. record_parts mode (beside ob s) i
          (scan_parts (record_fault mode (beside ob s)) 2 (count_of s) (count_of ob + 1) c.0 i p (omega arith));
      root = placed_parts (is_rule mode (beside ob s (root_of s) 0)) 11 2 0 d.0 refl;
      once = λ i p q. naming_parts mode (beside ob s) (root_of s) (last_of ob s) i
          (scan_parts (naming_fault mode (beside ob s) (root_of s) (last_of ob s)) 2 (count_of s) (count_of ob + 1) d.1 i p (omega arith));
    }

pub second_join : (mode : ℕ) (ob s : List ℕ) → ReadSecond mode ob s → second_reading mode ob s ≡ accepted 0
unfolding second_reading
second_join mode ob s r =
    let a = placed_pass (length_fits mode s) 1 2 0 r.length_of in
    let b = placed_pass (counts_fit ob s) 2 2 0 r.counts in
    let c = scan_join (record_fault mode (beside ob s)) 2 (count_of s) (count_of ob + 1)
    (λ j p q. record_join mode (beside ob s) j (r.sound j p (omega arith))) in
    let d = placed_pass (is_rule mode (beside ob s (root_of s) 0)) 11 2 0 r.root in
    let e = scan_join (naming_fault mode (beside ob s) (root_of s) (last_of ob s)) 2 (count_of s) (count_of ob + 1)
    (λ j p q. naming_join mode (beside ob s) (root_of s) (last_of ob s) j (r.once j p (omega arith))) in
    or_answer_join _ _ (ap (λ (x : Answer). x.refusal) a) ∙ or_answer_join _ _ (ap (λ (x : Answer). x.refusal) b)
    ∙ or_answer_join _ _ (ap (λ (x : Answer). x.refusal) c) ∙ or_answer_join _ _ (ap (λ (x : Answer). x.refusal) d) ∙ e

-- a pair of files that is not refused at places 1 to 12
pub reading_parts : (mode : ℕ) (ob s : List ℕ) → (reading mode ob s).refusal ≡ 0 → ReadObligation ob × ReadSecond mode ob s
unfolding reading
reading_parts mode ob s h =
    let p = or_answer_parts (obligation_reading ob) (second_reading mode ob s) h in
    (obligation_parts ob p.0, second_parts mode ob s p.1)

pub reading_join : (mode : ℕ) (ob s : List ℕ) → ReadObligation ob → ReadSecond mode ob s → reading mode ob s ≡ accepted 0
unfolding reading
reading_join mode ob s a b =
    or_answer_join (obligation_reading ob) (second_reading mode ob s) (ap (λ (x : Answer). x.refusal) (obligation_join ob a)) ∙ second_join mode ob s b

-- The tests of a file in plain words.

pub length_parts : (mode : ℕ) (s : List ℕ) → length_fits mode s ≡ true → (16 ≤ length s) × (length s % 16 ≡ 0) × (record_count s ≤ most_records mode)
unfolding length_fits
length_parts mode s h =
    let a = both_parts _ _ h in
    let b = both_parts _ _ a.1 in
    (leb-true 16 (length s) a.0, eqb-true (length s % 16) 0 b.0, leb-true (record_count s) (most_records mode) b.1)

-- the first word is 1, and the count is that of the records after the header
pub header_parts : (s : List ℕ) → header_fits s ≡ true → (word_of s 0 0 ≡ 1) × (count_of s + 1 ≡ record_count s)
unfolding header_fits
header_parts s h = let a = both_parts _ _ h in (eqb-true (word_of s 0 0) 1 a.0, eqb-true (word_of s 0 1 + 1) (record_count s) a.1)

-- the second file's header, and its count of the obligation's records
pub counts_parts : (ob s : List ℕ) → counts_fit ob s ≡ true → (header_fits s ≡ true) × (word_of s 0 3 ≡ count_of ob)
unfolding counts_fit
counts_parts ob s h = let a = both_parts _ _ h in (a.0, eqb-true (word_of s 0 3) (count_of ob) a.1)

-- a second file that passes has no more records after its header than its kind may have
pub records_few : (mode : ℕ) (ob s : List ℕ) → ReadSecond mode ob s → count_of s + 1 ≤ most_records mode
records_few mode ob s t = omega (arith, (length_parts mode s t.length_of).2, (header_parts s (counts_parts ob s t.counts).0).1)

-- the goal is a closed negation
pub goal_parts : (rd : Reader) → goal_fits rd ≡ true → (rd (negated_goal rd) 0 ≡ 18) × (is_closed (tree rd (negated_goal rd)) ≡ true)
unfolding goal_fits
goal_parts rd h = let a = both_parts _ _ h in (eqb-true (rd (negated_goal rd) 0) 18 a.0, a.1)

-- a closed tree has no variable that is not bound in it, and no type variable
pub closed_parts : (t : Tree) → is_closed t ≡ true → (indices_below 0 t ≡ true) × (types_below 0 t ≡ true)
unfolding is_closed
closed_parts t h = both_parts _ _ h

-- a hypothesis is of its class, closed, and its type variables are below its count
pub hypothesis_parts : (t : Tree) → hypothesis_fits t ≡ true →
    (is_hypothesis t ≡ true) × (indices_below 0 t ≡ true) × (types_below (type_count t) t ≡ true)
unfolding hypothesis_fits
hypothesis_parts t h = let a = both_parts _ _ h in let b = both_parts _ _ a.1 in (a.0, b.0, b.1)

-- a chain of hypotheses that is not 0
given_hypotheses : (rd : Reader) → hypotheses_fit rd ≡ true → (hypothesis_chain rd ≡ 0 → ⊥) →
    both (eqb (rd (hypothesis_chain rd) 0) 1)
    (both (every hypothesis_fits (item_trees rd (hypothesis_chain rd))) (leb (length (linked rd (hypothesis_chain rd))) 256)) ≡ true
unfolding hypotheses_fit if_eq
given_hypotheses rd h p = sym (when_different true _ (hypothesis_chain rd) 0 p) ∙ h

-- it starts with a link
pub hypotheses_link : (rd : Reader) → hypotheses_fit rd ≡ true → (hypothesis_chain rd ≡ 0 → ⊥) → rd (hypothesis_chain rd) 0 ≡ 1
hypotheses_link rd h p = eqb-true (rd (hypothesis_chain rd) 0) 1 (both_parts _ _ (given_hypotheses rd h p)).0

-- each hypothesis fits
pub each_hypothesis : (rd : Reader) → hypotheses_fit rd ≡ true → every hypothesis_fits (item_trees rd (hypothesis_chain rd)) ≡ true
unfolding item_trees every
each_hypothesis rd h = go (eqb (hypothesis_chain rd) 0) refl
  where
    go : (b : Bool) → eqb (hypothesis_chain rd) 0 ≡ b → every hypothesis_fits (item_trees rd (hypothesis_chain rd)) ≡ true
    go true e = let none : hypothesis_chain rd ≡ 0 = eqb-true (hypothesis_chain rd) 0 e in rw (none, items_zero rd)
    go false e = (both_parts _ _ (both_parts _ _ (given_hypotheses rd h (eqb-false (hypothesis_chain rd) 0 e))).1).0

-- there are at most 256
pub hypotheses_limit : (rd : Reader) → hypotheses_fit rd ≡ true → length (linked rd (hypothesis_chain rd)) ≤ 256
hypotheses_limit rd h = go (eqb (hypothesis_chain rd) 0) refl
  where
    go : (b : Bool) → eqb (hypothesis_chain rd) 0 ≡ b → length (linked rd (hypothesis_chain rd)) ≤ 256
    go true e =
        let none : hypothesis_chain rd ≡ 0 = eqb-true (hypothesis_chain rd) 0 e in
        let empty : length (linked rd (hypothesis_chain rd)) ≡ 0 = ap (λ x. length (linked rd x)) none ∙ ap length (linked_zero rd) in
        omega arith
    go false e =
        leb-true (length (linked rd (hypothesis_chain rd))) 256
        (both_parts _ _ (both_parts _ _ (given_hypotheses rd h (eqb-false (hypothesis_chain rd) 0 e))).1).1
