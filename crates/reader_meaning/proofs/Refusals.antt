-- A pair is well formed or refused at one of the places before the walk, and what `RefusedBefore` says is the definition's reading.
use Prim.Native.Nat.{ℕ, zero, suc, ◌+◌, ◌*◌, ◌-◌, ◌/◌, ◌%◌, ◌<◌, ◌≤◌}
use Rattle.std.specs.Prelude.{◌≡◌, List, Bool, ◌⊎◌, eqb, length}
use Rattle.std.proofs.Math.Path.{refl}
use Rattle.std.proofs.Common.{sym, ap, ◌∙◌}
use Rattle.std.proofs.Math.Bool.{true, false}
use Rattle.std.proofs.Math.Logic.{inl, inr, ⊎_elim}
use Rattle.std.proofs.Math.Dec.{ltb}
use native.Mathlib.Omega.{arith}
use borrow.Author.Tests.{eq-eqb, ne_eqb, eqb-true, eqb-false, ltb-true, ltb-false}
use Rattle.reader.specs.declared.Answer.{Answer}
use Rattle.reader.specs.Words.{Reader, record_count}
use Rattle.reader.specs.WordLaws.{word_past}
use Rattle.reader.specs.Tests.{both, demand, if_eq, if_true}
use Rattle.reader.specs.Kinds.{is_rule}
use Rattle.reader.specs.Records.{record_fault}
use Rattle.reader.specs.Answers.{answer, accepted, placed, or_answer, first_fault}
use Rattle.reader.specs.Places.{length_fits, header_fits, root_of, count_of, counts_fit, goal_fits, hypotheses_fit}
use Rattle.reader.specs.Places.{namings, naming_fault, obligation_reading, second_reading, reading}
use Rattle.reader_laws.specs.Scan.{both_parts, both_join, or_answer_join, placed_pass, scan_join}
use Rattle.reader_laws.specs.Record.{record_parts, record_join}
use Rattle.reader_laws.specs.File.{alone, beside, last_of, naming_parts, naming_join, obligation_join}
use Rattle.reader_laws.specs.Pair.{word_first, word_second, no_rule, kind_or_rule, obligation_sound}
use Rattle.reader_laws.specs.NotionLaws.{not_so, failed}
use Rattle.reader_meaning.specs.Table.{RuleKind}
use Rattle.reader_meaning.specs.WellFormed.{WellFormedRecord, WholeRecords, Header, SecondHeader, Goal, Hypotheses, Root, NamedOnce}
use Rattle.reader_meaning.specs.WellFormed.{WellFormedObligation, WellFormedPair}
use Rattle.reader_meaning.specs.Refused.{RecordRefused, RefusedBefore}
use Rattle.reader_meaning.proofs.TableLaws.{rule_in, rule_out, rule_least}
use Rattle.reader_meaning.proofs.RecordLaws.{record_in, record_out}
use Rattle.reader_meaning.proofs.FileLaws.{whole_in, whole_out, header_in, header_out, goal_out, hypotheses_out}
use Rattle.reader_meaning.proofs.NamingLaws.{once_in, once_out}
use Rattle.reader_meaning.proofs.FileLaws.{obligation_in, obligation_out, second_header_in, second_header_out}
use Rattle.reader_meaning.proofs.RecordRefusals.{refused_in, refused_out, refused_given}

-- places one after the other
stop_at : (a b c : Answer) → a ≡ c → 1 ≤ c.refusal → or_answer a b ≡ c
unfolding or_answer
stop_at a b c e h = rw e (simp (or_answer, ne_eqb c.refusal 0 (λ z. omega arith)))

placed_stop : (t : Bool) (n f i : ℕ) → t ≡ false → 1 ≤ n → placed (demand t n 0) f i ≡ answer n f i 0
unfolding placed demand
placed_stop t n f i e h = rw (e, demand) (simp (placed, ne_eqb n 0 (λ z. omega arith)))

-- the first of some records with a fault, or none
Found : (ℕ → ℕ) → ℕ → ℕ → Type 0
Found fault n i = (j : ℕ) × (i ≤ j) × (j < i + n) × ((l : ℕ) → i ≤ l → l < j → fault l ≡ 0) × (fault j ≡ 0 → ⊥)

scan_first : (fault : ℕ → ℕ) (n i : ℕ) → ((j : ℕ) → i ≤ j → j < i + n → fault j ≡ 0) ⊎ Found fault n i
unfolding Found
scan_first fault zero i = inl (λ j p q. absurd (omega arith))
scan_first fault (suc n) i = go (eqb (fault i) 0) refl (scan_first fault n (i + 1))
  where
    apart : (j : ℕ) → fault i ≡ 0 → i ≤ j → (i + 1 ≤ j → fault j ≡ 0) → fault j ≡ 0
    apart j e p f = at (eqb j i) refl
      where
        at : (b : Bool) → eqb j i ≡ b → fault j ≡ 0
        at true q = rw (eqb-true j i q) e
        at false q = let differ = eqb-false j i q in f (omega arith)

    go : (b : Bool) → eqb (fault i) 0 ≡ b → ((j : ℕ) → i + 1 ≤ j → j < i + 1 + n → fault j ≡ 0) ⊎ Found fault n (i + 1) →
        ((j : ℕ) → i ≤ j → j < i + suc n → fault j ≡ 0) ⊎ Found fault (suc n) i
    go false e r = inr (i, omega arith, omega arith, λ l p q. absurd (omega arith), eqb-false _ 0 e)
    go true e r =
        let none : fault i ≡ 0 = eqb-true _ 0 e in
        ⊎_elim (λ f. inl (λ j p q. apart j none p (λ u. f j u (omega arith))))
        (λ s. let low : i + 1 ≤ s.0 = s.1 in let high : s.0 < i + 1 + n = s.2 in
        inr (s.0, omega arith, omega arith, λ l p q. apart l none p (λ u. s.3 l u q), s.4)) r

scan_stop : (fault : ℕ → ℕ) (f n i j r : ℕ) → i ≤ j → j < i + n → ((l : ℕ) → i ≤ l → l < j → fault l ≡ 0) → fault j ≡ r → 1 ≤ r →
    first_fault fault f n i ≡ answer r f j 0
unfolding first_fault
scan_stop fault f zero i j r p q none e h = absurd (omega arith)
scan_stop fault f (suc n) i j r p q none e h = go (eqb j i) refl (λ u. scan_stop fault f n (i + 1) j r u (omega arith) (λ l a b. none l (omega arith) b) e h)
  where
    go : (b : Bool) → eqb j i ≡ b → (i + 1 ≤ j → first_fault fault f n (i + 1) ≡ answer r f j 0) → first_fault fault f (suc n) i ≡ answer r f j 0
    go true d rest =
        let same : j ≡ i = eqb-true j i d in
        let own : fault i ≡ r = ap fault (sym same) ∙ e in
        simp (first_fault, ne_eqb (fault i) 0 (λ z. omega arith)) (rw (own, same))
    go false d rest =
        let differ = eqb-false j i d in
        simp (first_fault, eq-eqb (fault i) 0 (none i (omega arith) (omega arith))) (rest (omega arith))

-- Records of a file of any kind.
module _ (mode : ℕ) (rd : Reader) (i : ℕ) where
  faultless : 1 ≤ i → WellFormedRecord mode rd i → record_fault mode rd i ≡ 0
  faultless p w = record_join mode rd i (record_out mode rd i p w)

  good : record_fault mode rd i ≡ 0 → WellFormedRecord mode rd i
  good h = record_in mode rd i (record_parts mode rd i h)

-- The obligation's places, where they pass and where they stop.
module _ (ob : List ℕ) where
  length_pass : WholeRecords 0 ob → placed (demand (length_fits 0 ob) 1 0) 1 0 ≡ accepted 0
  length_pass w = placed_pass (length_fits 0 ob) 1 1 0 (whole_out 0 ob w)

  header_pass : Header ob → placed (demand (header_fits ob) 2 0) 1 0 ≡ accepted 0
  header_pass h = placed_pass (header_fits ob) 2 1 0 (header_out ob h)

  records_pass : ((i : ℕ) → 1 ≤ i → i ≤ count_of ob → WellFormedRecord 0 (alone ob) i) → first_fault (record_fault 0 (alone ob)) 1 (count_of ob) 1 ≡ accepted 0
  records_pass w = scan_join (record_fault 0 (alone ob)) 1 (count_of ob) 1 (λ j p q. faultless 0 (alone ob) j p (w j p (omega arith)))

  after : (a b c : Answer) → a ≡ accepted 0 → b ≡ c → or_answer a b ≡ c
  after a b c e f = or_answer_join a b (ap (λ (x : Answer). x.refusal) e) ∙ f

  length_stop : (WholeRecords 0 ob → ⊥) → obligation_reading ob ≡ answer 1 1 0 0
  unfolding obligation_reading
  length_stop h =
      stop_at _ _ _ (placed_stop (length_fits 0 ob) 1 1 0 (not_so _ (λ t. h (whole_in 0 ob (omega arith) t))) (omega arith)) (omega arith)

  header_stop : WholeRecords 0 ob → (Header ob → ⊥) → obligation_reading ob ≡ answer 2 1 0 0
  unfolding obligation_reading
  header_stop w h =
      after _ _ _ (length_pass w) (stop_at _ _ _ (placed_stop (header_fits ob) 2 1 0 (not_so _ (λ t. h (header_in ob t))) (omega arith)) (omega arith))

  record_stop : (i r : ℕ) → WholeRecords 0 ob → Header ob → 1 ≤ i → i ≤ count_of ob →
      ((j : ℕ) → 1 ≤ j → j < i → WellFormedRecord 0 (alone ob) j) → RecordRefused 0 (alone ob) i r → obligation_reading ob ≡ answer r 1 i 0
  unfolding obligation_reading
  record_stop i r w h p q none f =
      let some = refused_given 0 (alone ob) i f in
      after _ _ _ (length_pass w) (after _ _ _ (header_pass h)
      (stop_at _ _ _
      (scan_stop (record_fault 0 (alone ob)) 1 (count_of ob) 1 i r p (omega arith)
      (λ l a b. faultless 0 (alone ob) l a (none l a b)) (refused_out 0 (alone ob) i f) some) some))

  -- the goal and the hypotheses, where their tests pass too
  roots_in : WholeRecords 0 ob → Header ob → ((i : ℕ) → 1 ≤ i → i ≤ count_of ob → WellFormedRecord 0 (alone ob) i) →
      both (goal_fits (alone ob)) (hypotheses_fit (alone ob)) ≡ true → WellFormedObligation ob
  roots_in w h rs t =
      let p = both_parts _ _ t in
      obligation_in ob (record {
        length_of = whole_out 0 ob w;
        header = header_out ob h;
        sound = λ i p q. record_out 0 (alone ob) i p (rs i p q);
        goal = p.0;
        hypotheses = p.1;
      })

  roots_stop : WholeRecords 0 ob → Header ob → ((i : ℕ) → 1 ≤ i → i ≤ count_of ob → WellFormedRecord 0 (alone ob) i) →
      (Goal (alone ob) (count_of ob) → Hypotheses (alone ob) (count_of ob) → ⊥) → obligation_reading ob ≡ answer 11 1 0 0
  unfolding obligation_reading
  roots_stop w h rs none =
      after _ _ _ (length_pass w) (after _ _ _ (header_pass h) (after _ _ _ (records_pass rs)
      (placed_stop _ 11 1 0 (not_so _ (λ t. let good = roots_in w h rs t in none good.goal good.hypotheses)) (omega arith))))

  obligation_passes : WellFormedObligation ob → obligation_reading ob ≡ accepted 0
  obligation_passes w = obligation_join ob (obligation_out ob w)

-- An obligation and a second file of kind `mode`.
module _ (mode : ℕ) (known : mode ≤ 2) (ob s : List ℕ) where
  -- the pair is refused
  abbrev Unread : Type 0
  Unread = (a : Answer) × RefusedBefore mode ob s a

  -- The obligation is well formed, or the pair is refused at one of the obligation's places.
  by_roots : WholeRecords 0 ob → Header ob → ((i : ℕ) → 1 ≤ i → i ≤ count_of ob → WellFormedRecord 0 (alone ob) i) → WellFormedObligation ob ⊎ Unread
  by_roots w h rs = go (both (goal_fits (alone ob)) (hypotheses_fit (alone ob))) refl
    where
      go : (b : Bool) → both (goal_fits (alone ob)) (hypotheses_fit (alone ob)) ≡ b → WellFormedObligation ob ⊎ Unread
      go true e = inl (roots_in ob w h rs e)
      go false e =
          inr (
            answer 11 1 0 0,
            RefusedBefore.obligation_roots w h rs
                (λ g y. failed _ e (both_join _ _ (goal_out (alone ob) (count_of ob) g) (hypotheses_out (alone ob) (count_of ob) y))),
          )

  by_records : WholeRecords 0 ob → Header ob → WellFormedObligation ob ⊎ Unread
  unfolding Found
  by_records w h =
      ⊎_elim (λ f. by_roots w h (λ i p q. good 0 (alone ob) i (f i p (omega arith))))
      (λ l. let high : l.0 < 1 + count_of ob = l.2 in
      inr (
        answer (record_fault 0 (alone ob) l.0) 1 l.0 0,
        RefusedBefore.obligation_record w h l.1 (omega arith) (λ j p q. good 0 (alone ob) j (l.3 j p q)) (refused_in 0 (alone ob) l.0 l.1 l.4),
      ))
      (scan_first (record_fault 0 (alone ob)) (count_of ob) 1)

  obligation_case : WellFormedObligation ob ⊎ Unread
  obligation_case = go (length_fits 0 ob) refl (header_fits ob) refl
    where
      go : (b : Bool) → length_fits 0 ob ≡ b → (c : Bool) → header_fits ob ≡ c → WellFormedObligation ob ⊎ Unread
      go false e c f = inr (answer 1 1 0 0, RefusedBefore.obligation_length (λ w. failed _ e (whole_out 0 ob w)))
      go true e false f = inr (answer 2 1 0 0, RefusedBefore.obligation_header (whole_in 0 ob (omega arith) e) (λ h. failed _ f (header_out ob h)))
      go true e true f = by_records (whole_in 0 ob (omega arith) e) (header_in ob f)

  at_obligation : (a : Answer) → obligation_reading ob ≡ a → 1 ≤ a.refusal → reading mode ob s ≡ a
  unfolding reading
  at_obligation a e h = stop_at _ _ a e h

-- The second file's places, beside a well-formed obligation.

file_end : (n c i : ℕ) → n % 16 ≡ 0 → c + 1 ≡ n / 16 → c < i → n ≤ 16 * i
file_end n c i r e h = omega arith

module _ (mode : ℕ) (known : mode ≤ 2) (ob s : List ℕ) (o : WellFormedObligation ob) where
  after_obligation : (a : Answer) → second_reading mode ob s ≡ a → reading mode ob s ≡ a
  unfolding reading
  after_obligation a e = after ob _ _ a (obligation_passes ob o) e

  -- a root out of range: a record past the last, and 0, are no rule nodes
  root_in : WholeRecords mode s → SecondHeader ob s → is_rule mode (beside ob s (root_of s) 0) ≡ true →
      Root mode (beside ob s) (root_of s) (count_of ob) (last_of ob s)
  unfolding record_count
  root_in w h t = record { after = low (root_of s) (rule_least (rule_in mode _ t)); in_range = high (ltb (last_of ob s) (root_of s)) refl; rule = rule_in mode _ t }
    where
      low : (n : ℕ) → 32 ≤ beside ob s n 0 → count_of ob + 1 ≤ n
      low zero l =
          let k : beside ob s 0 0 ≡ 1 = word_first ob s (count_of ob) 0 0 (omega arith) ∙ o.header.first in
          absurd (omega arith)
      low (suc n) l = go (ltb (count_of ob) (suc n)) refl
        where
          go : (b : Bool) → ltb (count_of ob) (suc n) ≡ b → count_of ob + 1 ≤ suc n
          go true e = let more : count_of ob < suc n = ltb-true (count_of ob) (suc n) e in omega arith
          go false e =
              let own = obligation_sound ob s (obligation_out ob o) (suc n) (omega arith) (ltb-false (count_of ob) (suc n) e) in
              let most : beside ob s (suc n) 0 ≤ 23 = (kind_or_rule 0 (beside ob s (suc n) 0) own.kind (no_rule (beside ob s (suc n) 0))).1 in
              absurd (omega arith)

      high : (b : Bool) → ltb (last_of ob s) (root_of s) ≡ b → root_of s ≤ last_of ob s
      high true e =
          let past : last_of ob s < root_of s = ltb-true (last_of ob s) (root_of s) e in
          let none : beside ob s (root_of s) 0 ≡ 0 =
          word_second ob s (count_of ob) (root_of s) 0 (omega arith)
          ∙ word_past s (root_of s - count_of ob) 0 (file_end (length s) (count_of s) _ w.whole h.header.count (omega arith)) in
          let some : 32 ≤ beside ob s (root_of s) 0 = rule_least (rule_in mode _ t) in
          absurd (omega arith)
      high false e = ltb-false (last_of ob s) (root_of s) e

  second_length_pass : WholeRecords mode s → placed (demand (length_fits mode s) 1 0) 2 0 ≡ accepted 0
  second_length_pass w = placed_pass (length_fits mode s) 1 2 0 (whole_out mode s w)

  second_header_pass : SecondHeader ob s → placed (demand (counts_fit ob s) 2 0) 2 0 ≡ accepted 0
  second_header_pass h = placed_pass (counts_fit ob s) 2 2 0 (second_header_out ob s h)

  -- what is known where all records of the second file are well formed
  abbrev Records : Type 0
  Records = (i : ℕ) → count_of ob + 1 ≤ i → i ≤ last_of ob s → WellFormedRecord mode (beside ob s) i

  second_records_pass : Records → first_fault (record_fault mode (beside ob s)) 2 (count_of s) (count_of ob + 1) ≡ accepted 0
  second_records_pass rs =
      scan_join (record_fault mode (beside ob s)) 2 (count_of s) (count_of ob + 1)
      (λ j p q. faultless mode (beside ob s) j (omega arith) (rs j p (omega arith)))

  abbrev RootHere : Type 0
  RootHere = Root mode (beside ob s) (root_of s) (count_of ob) (last_of ob s)

  root_pass : RootHere → placed (demand (is_rule mode (beside ob s (root_of s) 0)) 11 0) 2 0 ≡ accepted 0
  root_pass r = placed_pass _ 11 2 0 (rule_out r.rule)

  second_length_stop : (WholeRecords mode s → ⊥) → second_reading mode ob s ≡ answer 1 2 0 0
  unfolding second_reading
  second_length_stop h =
      stop_at _ _ _ (placed_stop (length_fits mode s) 1 2 0 (not_so _ (λ t. h (whole_in mode s known t))) (omega arith)) (omega arith)

  second_header_stop : WholeRecords mode s → (SecondHeader ob s → ⊥) → second_reading mode ob s ≡ answer 2 2 0 0
  unfolding second_reading
  second_header_stop w h =
      after ob _ _ _ (second_length_pass w)
      (stop_at _ _ _ (placed_stop (counts_fit ob s) 2 2 0 (not_so _ (λ t. h (second_header_in ob s t))) (omega arith)) (omega arith))

  second_record_stop : (i r : ℕ) → WholeRecords mode s → SecondHeader ob s → count_of ob + 1 ≤ i → i ≤ last_of ob s →
      ((j : ℕ) → count_of ob + 1 ≤ j → j < i → WellFormedRecord mode (beside ob s) j) → RecordRefused mode (beside ob s) i r →
      second_reading mode ob s ≡ answer r 2 i 0
  unfolding second_reading
  second_record_stop i r w h p q none f =
      let some = refused_given mode (beside ob s) i f in
      after ob _ _ _ (second_length_pass w) (after ob _ _ _ (second_header_pass h)
      (stop_at _ _ _
      (scan_stop (record_fault mode (beside ob s)) 2 (count_of s) (count_of ob + 1) i r p (omega arith)
      (λ l a b. faultless mode (beside ob s) l (omega arith) (none l a b)) (refused_out mode (beside ob s) i f) some) some))

  root_stop : WholeRecords mode s → SecondHeader ob s → Records → (RootHere → ⊥) → second_reading mode ob s ≡ answer 11 2 0 0
  unfolding second_reading
  root_stop w h rs none =
      after ob _ _ _ (second_length_pass w) (after ob _ _ _ (second_header_pass h) (after ob _ _ _ (second_records_pass rs)
      (stop_at _ _ _ (placed_stop _ 11 2 0 (not_so _ (λ t. none (root_in w h t))) (omega arith)) (omega arith))))

  -- naming
  unnamed : ℕ → ℕ
  unnamed = naming_fault mode (beside ob s) (root_of s) (last_of ob s)

  abbrev Once : ℕ → Type 0
  Once i = NamedOnce mode (beside ob s) (root_of s) (last_of ob s) i

  named_pass : (i : ℕ) → (RuleKind mode (beside ob s i 0) → Once i) → unnamed i ≡ 0
  unfolding unnamed
  named_pass i n = naming_join mode (beside ob s) (root_of s) (last_of ob s) i (λ t. once_out (n (rule_in mode _ t)))

  pass_named : (i : ℕ) → unnamed i ≡ 0 → RuleKind mode (beside ob s i 0) → Once i
  unfolding unnamed
  pass_named i h k =
      once_in mode (beside ob s) (root_of s) (last_of ob s) i (naming_parts mode (beside ob s) (root_of s) (last_of ob s) i h (rule_out k))

  -- the fault is 12, and that of a rule node
  unnamed_twelve : (i : ℕ) → (unnamed i ≡ 0 → ⊥) → (unnamed i ≡ 12) × (is_rule mode (beside ob s i 0) ≡ true)
  unfolding unnamed naming_fault if_true demand
  unnamed_twelve i h = go (is_rule mode (beside ob s i 0)) (eqb (if_eq (root_of s) i 1 0 + namings mode (beside ob s) i (last_of ob s)) 1) h
    where
      go : (a b : Bool) → (◌≡◌ {A = ℕ} (elim a [ true ↦ elim b [ true ↦ 0 | false ↦ 12 ] | false ↦ 0 ]) 0 → ⊥) →
          (◌≡◌ {A = ℕ} (elim a [ true ↦ elim b [ true ↦ 0 | false ↦ 12 ] | false ↦ 0 ]) 12) × (a ≡ true)
      go true true h = absurd (h refl)
      go true false h = (refl, refl)
      go false b h = absurd (h refl)

  naming_stop : (i : ℕ) → WholeRecords mode s → SecondHeader ob s → Records → RootHere → count_of ob + 1 ≤ i → i ≤ last_of ob s →
      ((j : ℕ) → count_of ob + 1 ≤ j → j < i → RuleKind mode (beside ob s j 0) → Once j) → RuleKind mode (beside ob s i 0) → (Once i → ⊥) →
      second_reading mode ob s ≡ answer 12 2 i 0
  unfolding second_reading unnamed
  naming_stop i w h rs r p q none k this =
      after ob _ _ _ (second_length_pass w) (after ob _ _ _ (second_header_pass h) (after ob _ _ _ (second_records_pass rs) (after ob _ _ _ (root_pass r)
      (scan_stop unnamed 2 (count_of s) (count_of ob + 1) i 12 p (omega arith) (λ l a b. named_pass l (none l a b))
      (unnamed_twelve i (λ z. this (pass_named i z k))).0 (omega arith)))))

  -- The second file is well formed, or the pair is refused at one of its places.
  by_naming : WholeRecords mode s → SecondHeader ob s → Records → RootHere → WellFormedPair mode ob s ⊎ Unread mode known ob s
  unfolding Found
  by_naming w h rs r =
      ⊎_elim (λ f. inl (record {
        obligation = o;
        second = record { whole_records = w; header = h; records = rs; root = r; once = λ i p q. pass_named i (f i p (omega arith)) };
      }))
      (λ l. let high : l.0 < count_of ob + 1 + count_of s = l.2 in
      inr (
        answer 12 2 l.0 0,
        RefusedBefore.naming o w h rs r l.1 (omega arith) (λ j p q. pass_named j (l.3 j p q)) (rule_in mode _ (unnamed_twelve l.0 l.4).1)
            (λ n. l.4 (named_pass l.0 (λ k. n))),
      ))
      (scan_first unnamed (count_of s) (count_of ob + 1))

  by_root : WholeRecords mode s → SecondHeader ob s → Records → WellFormedPair mode ob s ⊎ Unread mode known ob s
  by_root w h rs = go (is_rule mode (beside ob s (root_of s) 0)) refl
    where
      go : (b : Bool) → is_rule mode (beside ob s (root_of s) 0) ≡ b → WellFormedPair mode ob s ⊎ Unread mode known ob s
      go true e = by_naming w h rs (root_in w h e)
      go false e = inr (answer 11 2 0 0, RefusedBefore.second_root o w h rs (λ r. failed _ e (rule_out r.rule)))

  by_second_records : WholeRecords mode s → SecondHeader ob s → WellFormedPair mode ob s ⊎ Unread mode known ob s
  unfolding Found
  by_second_records w h =
      ⊎_elim (λ f. by_root w h (λ i p q. good mode (beside ob s) i (f i p (omega arith))))
      (λ l. let low : count_of ob + 1 ≤ l.0 = l.1 in let high : l.0 < count_of ob + 1 + count_of s = l.2 in
      inr (
        answer (record_fault mode (beside ob s) l.0) 2 l.0 0,
        RefusedBefore.second_record o w h low (omega arith)
            (λ j p q. good mode (beside ob s) j (l.3 j p q)) (refused_in mode (beside ob s) l.0 (omega arith) l.4),
      ))
      (scan_first (record_fault mode (beside ob s)) (count_of s) (count_of ob + 1))

  second_case : WellFormedPair mode ob s ⊎ Unread mode known ob s
  second_case = go (length_fits mode s) refl (counts_fit ob s) refl
    where
      go : (b : Bool) → length_fits mode s ≡ b → (c : Bool) → counts_fit ob s ≡ c → WellFormedPair mode ob s ⊎ Unread mode known ob s
      go false e c f = inr (answer 1 2 0 0, RefusedBefore.second_length o (λ w. failed _ e (whole_out mode s w)))
      go true e false f = inr (answer 2 2 0 0, RefusedBefore.second_header o (whole_in mode s known e) (λ h. failed _ f (second_header_out ob s h)))
      go true e true f = by_second_records (whole_in mode s known e) (second_header_in ob s f)

-- A pair is well formed, or refused at one of the places before the walk.
pub well_formed_or_refused : (mode : ℕ) → mode ≤ 2 → (ob s : List ℕ) → WellFormedPair mode ob s ⊎ ((a : Answer) × RefusedBefore mode ob s a)
well_formed_or_refused mode known ob s = ⊎_elim (λ o. second_case mode known ob s o) (λ r. inr r) (obligation_case mode known ob s)

-- What `RefusedBefore` says is the definition's reading, and a refusal.
pub refused_before : {mode : ℕ} {ob s : List ℕ} {a : Answer} → mode ≤ 2 → RefusedBefore mode ob s a → (reading mode ob s ≡ a) × (1 ≤ a.refusal)
refused_before {mode} {ob} {s} known (RefusedBefore.obligation_length h) =
    (at_obligation mode known ob s _ (length_stop ob h) (omega arith), omega arith)
refused_before {mode} {ob} {s} known (RefusedBefore.obligation_header w h) =
    (at_obligation mode known ob s _ (header_stop ob w h) (omega arith), omega arith)
refused_before {mode} {ob} {s} known (RefusedBefore.obligation_record {i = i} {r = r} w h p q none f) =
    let some = refused_given 0 (alone ob) i f in (at_obligation mode known ob s _ (record_stop ob i r w h p q none f) some, some)
refused_before {mode} {ob} {s} known (RefusedBefore.obligation_roots w h rs none) =
    (at_obligation mode known ob s _ (roots_stop ob w h rs none) (omega arith), omega arith)
refused_before {mode} {ob} {s} known (RefusedBefore.second_length o h) =
    (after_obligation mode known ob s o _ (second_length_stop mode known ob s o h), omega arith)
refused_before {mode} {ob} {s} known (RefusedBefore.second_header o w h) =
    (after_obligation mode known ob s o _ (second_header_stop mode known ob s o w h), omega arith)
refused_before {mode} {ob} {s} known (RefusedBefore.second_record {i = i} {r = r} o w h p q none f) =
    (after_obligation mode known ob s o _ (second_record_stop mode known ob s o i r w h p q none f), refused_given mode (beside ob s) i f)
refused_before {mode} {ob} {s} known (RefusedBefore.second_root o w h rs none) =
    (after_obligation mode known ob s o _ (root_stop mode known ob s o w h rs none), omega arith)
refused_before {mode} {ob} {s} known (RefusedBefore.naming {i = i} o w h rs r p q none k this) =
    (after_obligation mode known ob s o _ (naming_stop mode known ob s o i w h rs r p q none k this), omega arith)
