-- A record is one of the table exactly where its kind, the ranges of its words and its references pass; the same for chain lengths and kinds with a weight.
use Rattle.std.specs.Prelude.{ℕ, zero, suc, ◌<◌, ◌≤◌, Bool, ◌⊎◌, ltb}
use Rattle.std.proofs.Math.Path.{◌≡◌, refl, sym, ap}
use Rattle.std.proofs.Common.{◌∙◌}
use Rattle.std.proofs.Math.Bool.{true, false}
use Rattle.std.proofs.lemmas.Bool.{false≢true}
use Rattle.std.proofs.Math.Logic.{inl, inr, ⊎_elim}
use Rattle.std.proofs.Math.Dec.{eqb}
use native.Mathlib.Omega.{arith}
use borrow.Author.Tests.{eq-eqb, eqb-true, eqb-false, lt-ltb, ltb-true, le-leb, leb-true}
use Rattle.reader.specs.Words.{Reader}
use Rattle.reader.specs.Tests.{both, between, every, if_eq, if_lt}
use Rattle.reader.specs.KindLaws.{rule_role, rule_role_lem}
use Rattle.reader.specs.Kinds.{class, is_rule, is_kind, role, class_at, role_at}
use Rattle.reader.specs.Trees.{lower}
use Rattle.reader.specs.Chains.{items}
use Rattle.reader.specs.Weight.{is_weighed}
use Rattle.reader.specs.Names.{name_of}
use Rattle.reader.specs.Records.{in_range, range_at, ranges_fit, may_be_zero, wanted_class, item_class, has_class, items_have_class, refers, refers_at}
use Rattle.reader.specs.Records.{name_length_fits, types_fit, arguments_fit, item_chains_fit, most_weight}
use Rattle.reader_laws.specs.Scan.{both_parts, both_join, between_parts, when_less, when_not_less, when_equal, when_different}
use Rattle.reader_laws.specs.Record.{role_known}
use Rattle.reader_laws.specs.Parts.{lower_zero}
use Rattle.reader_laws.specs.NotionLaws.{every_in, every_out}
use Rattle.reader_meaning.specs.Spelling.{ConstantOrFunction, Symbol}
use Rattle.reader_meaning.specs.Table.{NamesAny, Names, MayName, NamesChain, MayNameChain, RuleKind, Kind, Entry, Ranges, ChainLengths, Weighed, Light}

-- a reference that must be given, and one that may be 0: to a smaller record, where x and y are what its class and its items must meet
module _ (a i : ℕ) (x y : Bool) where
  must_in : if_eq a 0 false (both (ltb a i) (both x y)) ≡ true → (1 ≤ a) × (a < i) × (x ≡ true) × (y ≡ true)
  unfolding if_eq
  must_in h = go (eqb a 0) refl h
    where
      go : (b : Bool) → eqb a 0 ≡ b → ◌≡◌ {A = Bool} (elim b [ true ↦ false | false ↦ both (ltb a i) (both x y) ]) true →
          (1 ≤ a) × (a < i) × (x ≡ true) × (y ≡ true)
      go true e h = absurd (false≢true h)
      go false e h =
          let p = both_parts _ _ h in
          let q = both_parts _ _ p.1 in
          let some = eqb-false a 0 e in
          (omega arith, ltb-true a i p.0, q.0, q.1)

  must_out : 1 ≤ a → a < i → x ≡ true → y ≡ true → if_eq a 0 false (both (ltb a i) (both x y)) ≡ true
  must_out p q u v = when_different _ _ a 0 (λ z. omega arith) ∙ both_join _ _ (lt-ltb a i q) (both_join _ _ u v)

  may_in : if_eq a 0 true (both (ltb a i) (both x y)) ≡ true → (a ≡ 0) ⊎ ((1 ≤ a) × (a < i) × (x ≡ true) × (y ≡ true))
  unfolding if_eq
  may_in h = go (eqb a 0) refl h
    where
      go : (b : Bool) → eqb a 0 ≡ b → ◌≡◌ {A = Bool} (elim b [ true ↦ true | false ↦ both (ltb a i) (both x y) ]) true →
          (a ≡ 0) ⊎ ((1 ≤ a) × (a < i) × (x ≡ true) × (y ≡ true))
      go true e h = inl (eqb-true a 0 e)
      go false e h = inr (must_in (when_different _ _ a 0 (eqb-false a 0 e) ∙ h))

  may_none : a ≡ 0 → if_eq a 0 true (both (ltb a i) (both x y)) ≡ true
  may_none e = when_equal _ _ a 0 e

  may_out : 1 ≤ a → a < i → x ≡ true → y ≡ true → if_eq a 0 true (both (ltb a i) (both x y)) ≡ true
  may_out p q u v = when_different _ _ a 0 (λ z. omega arith) ∙ both_join _ _ (lt-ltb a i q) (both_join _ _ u v)

-- what lies between two bounds
pub between_out : (low high a : ℕ) → low ≤ a → a ≤ high → between low high a ≡ true
unfolding between
between_out low high a p q = when_not_less _ _ a low p ∙ le-leb a high q

-- word w of record i passes the tests of range and reference
abbrev pub Fit : Reader → ℕ → ℕ → Type 0
Fit rd i w = (range_at rd i w ≡ true) × (refers_at rd i w ≡ true)

-- Words by their roles.
module _ (rd : Reader) (i w : ℕ) where
  -- the tests of role r
  abbrev FitIn : ℕ → Type 0
  FitIn r = (in_range r (rd i w) ≡ true) × (refers rd i r (rd i w) ≡ true)

  fit_in : (r : ℕ) → role_at rd i w ≡ r → Fit rd i w → FitIn r
  unfolding range_at refers_at
  fit_in r e f = (ap (λ (s : ℕ). in_range s (rd i w)) (sym e) ∙ f.0, ap (λ (s : ℕ). refers rd i s (rd i w)) (sym e) ∙ f.1)

  fit_out : (r : ℕ) → role_at rd i w ≡ r → FitIn r → Fit rd i w
  unfolding range_at refers_at
  fit_out r e f = (ap (λ (s : ℕ). in_range s (rd i w)) e ∙ f.0, ap (λ (s : ℕ). refers rd i s (rd i w)) e ∙ f.1)

  -- words that are no references, by the test of range alone
  range_in : (r : ℕ) → role_at rd i w ≡ r → range_at rd i w ≡ true → in_range r (rd i w) ≡ true
  unfolding range_at
  range_in r e f = ap (λ (s : ℕ). in_range s (rd i w)) (sym e) ∙ f

  range_out : (r : ℕ) → role_at rd i w ≡ r → in_range r (rd i w) ≡ true → range_at rd i w ≡ true
  unfolding range_at
  range_out r e f = ap (λ (s : ℕ). in_range s (rd i w)) e ∙ f

  zero_range : role_at rd i w ≡ 0 → range_at rd i w ≡ true → rd i w ≡ 0
  unfolding in_range if_eq
  zero_range e f = eqb-true _ 0 (range_in 0 e f)

  range_zero : rd i w ≡ 0 → in_range 0 (rd i w) ≡ true
  unfolding in_range if_eq
  range_zero h = eq-eqb _ 0 h

  three_range : role_at rd i w ≡ 2 → range_at rd i w ≡ true → rd i w ≤ 3
  unfolding in_range if_eq
  three_range e f = let l = ltb-true (rd i w) 4 (range_in 2 e f) in omega arith

  range_three : rd i w ≤ 3 → in_range 2 (rd i w) ≡ true
  unfolding in_range if_eq
  range_three h = lt-ltb (rd i w) 4 (omega arith)

  four_range : role_at rd i w ≡ 3 → range_at rd i w ≡ true → rd i w ≤ 4
  unfolding in_range if_eq
  four_range e f = let l = ltb-true (rd i w) 5 (range_in 3 e f) in omega arith

  range_four : rd i w ≤ 4 → in_range 3 (rd i w) ≡ true
  unfolding in_range if_eq
  range_four h = lt-ltb (rd i w) 5 (omega arith)

  index_range : role_at rd i w ≡ 4 → range_at rd i w ≡ true → rd i w ≤ 63
  unfolding in_range if_eq
  index_range e f = let l = ltb-true (rd i w) 64 (range_in 4 e f) in omega arith

  range_index : rd i w ≤ 63 → in_range 4 (rd i w) ≡ true
  unfolding in_range if_eq
  range_index h = lt-ltb (rd i w) 64 (omega arith)

  count_range : role_at rd i w ≡ 5 → range_at rd i w ≡ true → (1 ≤ rd i w) × (rd i w ≤ 4)
  unfolding in_range if_eq
  count_range e f = between_parts 1 4 (rd i w) (range_in 5 e f)

  range_count : 1 ≤ rd i w → rd i w ≤ 4 → in_range 5 (rd i w) ≡ true
  unfolding in_range if_eq
  range_count p q = between_out 1 4 (rd i w) p q

  zero_in : role_at rd i w ≡ 0 → Fit rd i w → rd i w ≡ 0
  zero_in e f = zero_range e f.0

  zero_out : role_at rd i w ≡ 0 → rd i w ≡ 0 → Fit rd i w
  unfolding refers if_lt
  zero_out e h = fit_out 0 e (range_zero h, refl)

  bytes_out : role_at rd i w ≡ 1 → Fit rd i w
  unfolding in_range if_eq refers if_lt
  bytes_out e = fit_out 1 e (refl, refl)

  three_in : role_at rd i w ≡ 2 → Fit rd i w → rd i w ≤ 3
  three_in e f = three_range e f.0

  three_out : role_at rd i w ≡ 2 → rd i w ≤ 3 → Fit rd i w
  unfolding refers if_lt
  three_out e h = fit_out 2 e (range_three h, refl)

  four_in : role_at rd i w ≡ 3 → Fit rd i w → rd i w ≤ 4
  four_in e f = four_range e f.0

  four_out : role_at rd i w ≡ 3 → rd i w ≤ 4 → Fit rd i w
  unfolding refers if_lt
  four_out e h = fit_out 3 e (range_four h, refl)

  index_in : role_at rd i w ≡ 4 → Fit rd i w → rd i w ≤ 63
  index_in e f = index_range e f.0

  index_out : role_at rd i w ≡ 4 → rd i w ≤ 63 → Fit rd i w
  unfolding refers if_lt
  index_out e h = fit_out 4 e (range_index h, refl)

  count_in : role_at rd i w ≡ 5 → Fit rd i w → (1 ≤ rd i w) × (rd i w ≤ 4)
  count_in e f = count_range e f.0

  count_out : role_at rd i w ≡ 5 → 1 ≤ rd i w → rd i w ≤ 4 → Fit rd i w
  unfolding refers if_lt
  count_out e p q = fit_out 5 e (range_count p q, refl)

  any_in : role_at rd i w ≡ 10 → Fit rd i w → NamesAny rd i w
  unfolding refers if_lt may_be_zero wanted_class item_class has_class items_have_class if_eq
  any_in e f = let q = must_in (rd i w) i true true (fit_in 10 e f).1 in record { given = q.0; smaller = q.1 }

  any_out : role_at rd i w ≡ 10 → NamesAny rd i w → Fit rd i w
  unfolding in_range refers if_lt may_be_zero wanted_class item_class has_class items_have_class if_eq
  any_out e n = fit_out 10 e (refl, must_out (rd i w) i true true n.given n.smaller refl refl)

  -- roles of references that must be given, to records of class c: their tests are these
  abbrev Must : ℕ → Bool
  Must c = if_eq (rd i w) 0 false (both (ltb (rd i w) i) (both (eqb (class_at rd (rd i w)) c) true))

  must_name : (c : ℕ) → Must c ≡ true → Names rd i w c
  must_name c h = let q = must_in (rd i w) i _ true h in record { given = q.0; smaller = q.1; of_class = eqb-true _ c q.2 }

  name_must : (c : ℕ) → Names rd i w c → Must c ≡ true
  name_must c n = must_out (rd i w) i _ true n.given n.smaller (eq-eqb _ c n.of_class) refl

  name_in : role_at rd i w ≡ 6 → Fit rd i w → Names rd i w 2
  unfolding refers if_lt may_be_zero wanted_class item_class has_class items_have_class if_eq
  name_in e f = must_name 2 (fit_in 6 e f).1

  name_out : role_at rd i w ≡ 6 → Names rd i w 2 → Fit rd i w
  unfolding in_range refers if_lt may_be_zero wanted_class item_class has_class items_have_class if_eq
  name_out e n = fit_out 6 e (refl, name_must 2 n)

  type_in : role_at rd i w ≡ 12 → Fit rd i w → Names rd i w 3
  unfolding refers if_lt may_be_zero wanted_class item_class has_class items_have_class if_eq
  type_in e f = must_name 3 (fit_in 12 e f).1

  type_out : role_at rd i w ≡ 12 → Names rd i w 3 → Fit rd i w
  unfolding in_range refers if_lt may_be_zero wanted_class item_class has_class items_have_class if_eq
  type_out e n = fit_out 12 e (refl, name_must 3 n)

  term_in : role_at rd i w ≡ 13 → Fit rd i w → Names rd i w 4
  unfolding refers if_lt may_be_zero wanted_class item_class has_class items_have_class if_eq
  term_in e f = must_name 4 (fit_in 13 e f).1

  term_out : role_at rd i w ≡ 13 → Names rd i w 4 → Fit rd i w
  unfolding in_range refers if_lt may_be_zero wanted_class item_class has_class items_have_class if_eq
  term_out e n = fit_out 13 e (refl, name_must 4 n)

  formula_in : role_at rd i w ≡ 14 → Fit rd i w → Names rd i w 5
  unfolding refers if_lt may_be_zero wanted_class item_class has_class items_have_class if_eq
  formula_in e f = must_name 5 (fit_in 14 e f).1

  formula_out : role_at rd i w ≡ 14 → Names rd i w 5 → Fit rd i w
  unfolding in_range refers if_lt may_be_zero wanted_class item_class has_class items_have_class if_eq
  formula_out e n = fit_out 14 e (refl, name_must 5 n)

  function_in : role_at rd i w ≡ 15 → Fit rd i w → Names rd i w 6
  unfolding refers if_lt may_be_zero wanted_class item_class has_class items_have_class if_eq
  function_in e f = must_name 6 (fit_in 15 e f).1

  function_out : role_at rd i w ≡ 15 → Names rd i w 6 → Fit rd i w
  unfolding in_range refers if_lt may_be_zero wanted_class item_class has_class items_have_class if_eq
  function_out e n = fit_out 15 e (refl, name_must 6 n)

  -- the same of references that may be 0
  abbrev May : ℕ → Bool
  May c = if_eq (rd i w) 0 true (both (ltb (rd i w) i) (both (eqb (class_at rd (rd i w)) c) true))

  may_name : (c : ℕ) → May c ≡ true → MayName rd i w c
  may_name c h =
      ⊎_elim (λ z. inl z) (λ q. inr (record { given = q.0; smaller = q.1; of_class = eqb-true _ c q.2 })) (may_in (rd i w) i _ true h)

  name_may : (c : ℕ) → MayName rd i w c → May c ≡ true
  name_may c m =
      ⊎_elim (λ z. may_none (rd i w) i _ true z) (λ n. may_out (rd i w) i _ true n.given n.smaller (eq-eqb _ c n.of_class) refl) m

  next_name_in : role_at rd i w ≡ 7 → Fit rd i w → MayName rd i w 2
  unfolding refers if_lt may_be_zero wanted_class item_class has_class items_have_class if_eq
  next_name_in e f = may_name 2 (fit_in 7 e f).1

  next_name_out : role_at rd i w ≡ 7 → MayName rd i w 2 → Fit rd i w
  unfolding in_range refers if_lt may_be_zero wanted_class item_class has_class items_have_class if_eq
  next_name_out e n = fit_out 7 e (refl, name_may 2 n)

  rule_chain_in : role_at rd i w ≡ 8 → Fit rd i w → MayName rd i w 1
  unfolding refers if_lt may_be_zero wanted_class item_class has_class items_have_class if_eq
  rule_chain_in e f = may_name 1 (fit_in 8 e f).1

  rule_chain_out : role_at rd i w ≡ 8 → MayName rd i w 1 → Fit rd i w
  unfolding in_range refers if_lt may_be_zero wanted_class item_class has_class items_have_class if_eq
  rule_chain_out e n = fit_out 8 e (refl, name_may 1 n)

  next_link_in : role_at rd i w ≡ 11 → Fit rd i w → MayName rd i w 1
  unfolding refers if_lt may_be_zero wanted_class item_class has_class items_have_class if_eq
  next_link_in e f = may_name 1 (fit_in 11 e f).1

  next_link_out : role_at rd i w ≡ 11 → MayName rd i w 1 → Fit rd i w
  unfolding in_range refers if_lt may_be_zero wanted_class item_class has_class items_have_class if_eq
  next_link_out e n = fit_out 11 e (refl, name_may 1 n)

  -- and of chains
  abbrev Items : ℕ → Bool
  Items c = every (λ x. eqb (class_at rd x) c) (items rd (rd i w))

  chain_in : (c : ℕ) → if_eq (rd i w) 0 false (both (ltb (rd i w) i) (both (eqb (class_at rd (rd i w)) 1) (Items c))) ≡ true → NamesChain rd i w c
  chain_in c h =
      let q = must_in (rd i w) i _ (Items c) h in
      record {
        link = record { given = q.0; smaller = q.1; of_class = eqb-true _ 1 q.2 };
        items_of = every_in (λ x. eqb (class_at rd x) c) (λ x. class_at rd x ≡ c) (λ x e. eqb-true _ c e) (items rd (rd i w)) q.3;
      }

  items_out : (c : ℕ) → NamesChain rd i w c → Items c ≡ true
  items_out c n = every_out (λ x. eqb (class_at rd x) c) (λ x. class_at rd x ≡ c) (λ x e. eq-eqb _ c e) (items rd (rd i w)) n.items_of

  chain_out : (c : ℕ) → NamesChain rd i w c → if_eq (rd i w) 0 false (both (ltb (rd i w) i) (both (eqb (class_at rd (rd i w)) 1) (Items c))) ≡ true
  chain_out c n = must_out (rd i w) i _ _ n.link.given n.link.smaller (eq-eqb _ 1 n.link.of_class) (items_out c n)

  signature_in : role_at rd i w ≡ 9 → Fit rd i w → NamesChain rd i w 3
  unfolding refers if_lt may_be_zero wanted_class item_class has_class items_have_class if_eq
  signature_in e f = chain_in 3 (fit_in 9 e f).1

  signature_out : role_at rd i w ≡ 9 → NamesChain rd i w 3 → Fit rd i w
  unfolding in_range refers if_lt may_be_zero wanted_class item_class has_class items_have_class if_eq
  signature_out e n = fit_out 9 e (refl, chain_out 3 n)

  types_in : role_at rd i w ≡ 16 → Fit rd i w → NamesChain rd i w 3
  unfolding refers if_lt may_be_zero wanted_class item_class has_class items_have_class if_eq
  types_in e f = chain_in 3 (fit_in 16 e f).1

  types_out : role_at rd i w ≡ 16 → NamesChain rd i w 3 → Fit rd i w
  unfolding in_range refers if_lt may_be_zero wanted_class item_class has_class items_have_class if_eq
  types_out e n = fit_out 16 e (refl, chain_out 3 n)

  terms_in : role_at rd i w ≡ 17 → Fit rd i w → MayNameChain rd i w 4
  unfolding refers if_lt may_be_zero wanted_class item_class has_class items_have_class if_eq
  terms_in e f =
      ⊎_elim (λ z. inl z) (λ q. inr (chain_in 4 (must_out (rd i w) i _ _ q.0 q.1 q.2 q.3))) (may_in (rd i w) i _ (Items 4) (fit_in 17 e f).1)

  terms_out : role_at rd i w ≡ 17 → MayNameChain rd i w 4 → Fit rd i w
  unfolding in_range refers if_lt may_be_zero wanted_class item_class has_class items_have_class if_eq
  terms_out e m =
      fit_out 17 e (
        refl,
        ⊎_elim (λ z. may_none (rd i w) i _ (Items 4) z)
            (λ n. may_out (rd i w) i _ _ n.link.given n.link.smaller (eq-eqb _ 1 n.link.of_class) (items_out 4 n)) m,
      )

-- the kinds of rule nodes, and of a file
pub rule_in : (mode k : ℕ) → is_rule mode k ≡ true → RuleKind mode k
unfolding is_rule if_eq
rule_in mode k h = go (eqb mode 1) refl (eqb mode 2) refl h
  where
    go : (a : Bool) → eqb mode 1 ≡ a → (b : Bool) → eqb mode 2 ≡ b →
        ◌≡◌ {A = Bool} (elim a [ true ↦ between 32 46 k | false ↦ elim b [ true ↦ between 64 80 k | false ↦ false ] ]) true → RuleKind mode k
    go true ea b eb h = let p = between_parts 32 46 k h in RuleKind.proof (eqb-true mode 1 ea) p.0 (omega (arith, p.1))
    go false ea true eb h = let p = between_parts 64 80 k h in RuleKind.derivation (eqb-true mode 2 eb) p.0 (omega (arith, p.1))
    go false ea false eb h = absurd (false≢true h)

pub rule_out : {mode k : ℕ} → RuleKind mode k → is_rule mode k ≡ true
unfolding is_rule if_eq
rule_out {mode} {k} (RuleKind.proof m low high) = ap (λ (o : ℕ). is_rule o k) m ∙ between_out 32 46 k low high
rule_out {mode} {k} (RuleKind.derivation m low high) = ap (λ (o : ℕ). is_rule o k) m ∙ between_out 64 80 k low high

pub rule_least : {mode k : ℕ} → RuleKind mode k → 32 ≤ k
rule_least (RuleKind.proof m low high) = low
rule_least (RuleKind.derivation m low high) = omega arith

pub kind_in : (mode k : ℕ) → is_kind mode k ≡ true → Kind mode k
unfolding is_kind if_lt
kind_in mode k h = go (ltb k 24) refl h
  where
    go : (b : Bool) → ltb k 24 ≡ b → ◌≡◌ {A = Bool} (elim b [ true ↦ ltb 0 k | false ↦ is_rule mode k ]) true → Kind mode k
    go true e h = let l = ltb-true k 24 e in Kind.table (ltb-true 0 k h) (omega arith)
    go false e h = Kind.rule (rule_in mode k h)

pub kind_out : {mode k : ℕ} → Kind mode k → is_kind mode k ≡ true
unfolding is_kind
kind_out {mode} {k} (Kind.table low high) = when_less (ltb 0 k) (is_rule mode k) k 24 (omega arith) ∙ lt-ltb 0 k low
kind_out {mode} {k} (Kind.rule r) =
    let low = rule_least r in
    when_not_less (ltb 0 k) (is_rule mode k) k 24 (omega arith) ∙ rule_out r

-- the least of some numbers, or more
least : (c k : ℕ) → c ≤ k → (k ≡ c) ⊎ (suc c ≤ k)
least c k h = go (eqb k c) refl
  where
    go : (b : Bool) → eqb k c ≡ b → (k ≡ c) ⊎ (suc c ≤ k)
    go true e = inl (eqb-true k c e)
    go false e = let other = eqb-false k c e in inr (omega arith)

-- what holds of each of the kinds 1 to 23
by_kind : {C : Type 0} (k : ℕ) → 1 ≤ k → k ≤ 23 →
    (k ≡ 1 → C) → (k ≡ 2 → C) → (k ≡ 3 → C) → (k ≡ 4 → C) → (k ≡ 5 → C) → (k ≡ 6 → C) → (k ≡ 7 → C) → (k ≡ 8 → C) →
    (k ≡ 9 → C) → (k ≡ 10 → C) → (k ≡ 11 → C) → (k ≡ 12 → C) → (k ≡ 13 → C) → (k ≡ 14 → C) → (k ≡ 15 → C) →
    (k ≡ 16 → C) → (k ≡ 17 → C) → (k ≡ 18 → C) → (k ≡ 19 → C) → (k ≡ 20 → C) → (k ≡ 21 → C) → (k ≡ 22 → C) → (k ≡ 23 → C) → C
by_kind k low high k1 k2 k3 k4 k5 k6 k7 k8 k9 k10 k11 k12 k13 k14 k15 k16 k17 k18 k19 k20 k21 k22 k23 =
    ⊎_elim k1 (λ h.
    ⊎_elim k2 (λ h.
    ⊎_elim k3 (λ h.
    ⊎_elim k4 (λ h.
    ⊎_elim k5 (λ h.
    ⊎_elim k6 (λ h.
    ⊎_elim k7 (λ h.
    ⊎_elim k8 (λ h.
    ⊎_elim k9 (λ h.
    ⊎_elim k10 (λ h.
    ⊎_elim k11 (λ h.
    ⊎_elim k12 (λ h.
    ⊎_elim k13 (λ h.
    ⊎_elim k14 (λ h.
    ⊎_elim k15 (λ h.
    ⊎_elim k16 (λ h.
    ⊎_elim k17 (λ h.
    ⊎_elim k18 (λ h.
    ⊎_elim k19 (λ h.
    ⊎_elim k20 (λ h.
    ⊎_elim k21 (λ h.
    ⊎_elim k22 (λ h.
    ⊎_elim k23 (λ h.
    absurd (omega arith)
    ) (least 23 k h)) (least 22 k h)) (least 21 k h)) (least 20 k h)) (least 19 k h)
    ) (least 18 k h)) (least 17 k h)) (least 16 k h)) (least 15 k h)) (least 14 k h)
    ) (least 13 k h)) (least 12 k h)) (least 11 k h)) (least 10 k h)) (least 9 k h)
    ) (least 8 k h)) (least 7 k h)) (least 6 k h)) (least 5 k h)) (least 4 k h)
    ) (least 3 k h)) (least 2 k h)) (least 1 k low)

-- A record of a kind that passes its tests is one of the table.
module _ (mode : ℕ) (rd : Reader) (i : ℕ) (fits : (w : ℕ) → 1 ≤ w → w ≤ 3 → Fit rd i w) where
  fit_1 : Fit rd i 1
  fit_1 = fits 1 (omega arith) (omega arith)

  fit_2 : Fit rd i 2
  fit_2 = fits 2 (omega arith) (omega arith)

  fit_3 : Fit rd i 3
  fit_3 = fits 3 (omega arith) (omega arith)

  -- the role of word w where the kind is k
  is : (w k : ℕ) → rd i 0 ≡ k → role_at rd i w ≡ role k w
  is w k e = role_known rd i w k e

  table_in : 1 ≤ rd i 0 → rd i 0 ≤ 23 → Entry mode rd i
  unfolding role if_lt if_eq
  table_in low high =
      by_kind (rd i 0) low high
      (λ e. Entry.link e (any_in rd i 1 (is 1 1 e) fit_1) (zero_in rd i 2 (is 2 1 e) fit_2) (next_link_in rd i 3 (is 3 1 e) fit_3))
      (λ e. Entry.name_record e (next_name_in rd i 3 (is 3 2 e) fit_3))
      (λ e. Entry.given_type e (name_in rd i 1 (is 1 3 e) fit_1) (zero_in rd i 2 (is 2 3 e) fit_2) (zero_in rd i 3 (is 3 3 e) fit_3))
      (λ e. Entry.set_type e (type_in rd i 1 (is 1 4 e) fit_1) (zero_in rd i 2 (is 2 4 e) fit_2) (zero_in rd i 3 (is 3 4 e) fit_3))
      (λ e. Entry.pair_type e (type_in rd i 1 (is 1 5 e) fit_1) (type_in rd i 2 (is 2 5 e) fit_2) (zero_in rd i 3 (is 3 5 e) fit_3))
      (λ e. Entry.type_variable e (three_in rd i 1 (is 1 6 e) fit_1) (zero_in rd i 2 (is 2 6 e) fit_2) (zero_in rd i 3 (is 3 6 e) fit_3))
      (λ e. Entry.constant e (type_in rd i 1 (is 1 7 e) fit_1) (name_in rd i 2 (is 2 7 e) fit_2) (zero_in rd i 3 (is 3 7 e) fit_3))
      (λ e. Entry.function e (signature_in rd i 1 (is 1 8 e) fit_1) (four_in rd i 2 (is 2 8 e) fit_2) (name_in rd i 3 (is 3 8 e) fit_3))
      (λ e. Entry.bound_variable e (index_in rd i 1 (is 1 9 e) fit_1) (type_in rd i 2 (is 2 9 e) fit_2) (zero_in rd i 3 (is 3 9 e) fit_3))
      (λ e. Entry.pair e (term_in rd i 1 (is 1 10 e) fit_1) (term_in rd i 2 (is 2 10 e) fit_2) (type_in rd i 3 (is 3 10 e) fit_3))
      (λ e. Entry.product e (term_in rd i 1 (is 1 11 e) fit_1) (term_in rd i 2 (is 2 11 e) fit_2) (type_in rd i 3 (is 3 11 e) fit_3))
      (λ e. Entry.powerset e (term_in rd i 1 (is 1 12 e) fit_1) (type_in rd i 2 (is 2 12 e) fit_2) (zero_in rd i 3 (is 3 12 e) fit_3))
      (λ e. Entry.application e (function_in rd i 1 (is 1 13 e) fit_1) (types_in rd i 2 (is 2 13 e) fit_2) (terms_in rd i 3 (is 3 13 e) fit_3))
      (λ e. Entry.falsity e (zero_in rd i 1 (is 1 14 e) fit_1) (zero_in rd i 2 (is 2 14 e) fit_2) (zero_in rd i 3 (is 3 14 e) fit_3))
      (λ e. Entry.truth e (zero_in rd i 1 (is 1 15 e) fit_1) (zero_in rd i 2 (is 2 15 e) fit_2) (zero_in rd i 3 (is 3 15 e) fit_3))
      (λ e. Entry.conjunction e (formula_in rd i 1 (is 1 16 e) fit_1) (formula_in rd i 2 (is 2 16 e) fit_2) (zero_in rd i 3 (is 3 16 e) fit_3))
      (λ e. Entry.implication e (formula_in rd i 1 (is 1 17 e) fit_1) (formula_in rd i 2 (is 2 17 e) fit_2) (zero_in rd i 3 (is 3 17 e) fit_3))
      (λ e. Entry.negation e (formula_in rd i 1 (is 1 18 e) fit_1) (zero_in rd i 2 (is 2 18 e) fit_2) (zero_in rd i 3 (is 3 18 e) fit_3))
      (λ e. Entry.universal e (type_in rd i 1 (is 1 19 e) fit_1) (formula_in rd i 2 (is 2 19 e) fit_2) (zero_in rd i 3 (is 3 19 e) fit_3))
      (λ e. Entry.equation e (term_in rd i 1 (is 1 20 e) fit_1) (term_in rd i 2 (is 2 20 e) fit_2) (zero_in rd i 3 (is 3 20 e) fit_3))
      (λ e. Entry.membership e (term_in rd i 1 (is 1 21 e) fit_1) (term_in rd i 2 (is 2 21 e) fit_2) (zero_in rd i 3 (is 3 21 e) fit_3))
      (λ e. let c = count_in rd i 1 (is 1 22 e) fit_1 in
      Entry.for_all_types e c.0 c.1 (formula_in rd i 2 (is 2 22 e) fit_2) (zero_in rd i 3 (is 3 22 e) fit_3))
      (λ e. Entry.choice e (term_in rd i 1 (is 1 23 e) fit_1) (type_in rd i 2 (is 2 23 e) fit_2) (zero_in rd i 3 (is 3 23 e) fit_3))

  rule_entry : RuleKind mode (rd i 0) → Entry mode rd i
  unfolding role if_eq if_lt
  rule_entry r =
      let rule : (w : ℕ) → role_at rd i w ≡ rule_role w = λ w. role_known rd i w (rd i 0) refl ∙ rule_role_lem (rd i 0) (rule_least r) w in
      Entry.rule_node r (rule_chain_in rd i 1 (rule 1) fit_1) (rule_chain_in rd i 2 (rule 2) fit_2) (zero_in rd i 3 (rule 3) fit_3)

  pub entry_in : Kind mode (rd i 0) → Entry mode rd i
  entry_in (Kind.table low high) = table_in low high
  entry_in (Kind.rule r) = rule_entry r

-- and the other way round
pub three_words : (rd : Reader) (i : ℕ) → Fit rd i 1 → Fit rd i 2 → Fit rd i 3 → (w : ℕ) → 1 ≤ w → w ≤ 3 → Fit rd i w
three_words rd i a b c zero p q = absurd (omega arith)
three_words rd i a b c (suc zero) p q = a
three_words rd i a b c (suc (suc zero)) p q = b
three_words rd i a b c (suc (suc (suc zero))) p q = c
three_words rd i a b c (suc (suc (suc (suc w)))) p q = absurd (omega arith)

pub entry_out : {mode : ℕ} {rd : Reader} {i : ℕ} → Entry mode rd i → (w : ℕ) → 1 ≤ w → w ≤ 3 → Fit rd i w
unfolding role if_lt if_eq
entry_out {mode} {rd} {i} (Entry.link e x y z) =
    three_words rd i (any_out rd i 1 (role_known rd i 1 1 e) x) (zero_out rd i 2 (role_known rd i 2 1 e) y) (next_link_out rd i 3 (role_known rd i 3 1 e) z)
entry_out {mode} {rd} {i} (Entry.name_record e x) =
    three_words rd i (bytes_out rd i 1 (role_known rd i 1 2 e)) (bytes_out rd i 2 (role_known rd i 2 2 e)) (next_name_out rd i 3 (role_known rd i 3 2 e) x)
entry_out {mode} {rd} {i} (Entry.given_type e x y z) =
    three_words rd i (name_out rd i 1 (role_known rd i 1 3 e) x) (zero_out rd i 2 (role_known rd i 2 3 e) y) (zero_out rd i 3 (role_known rd i 3 3 e) z)
entry_out {mode} {rd} {i} (Entry.set_type e x y z) =
    three_words rd i (type_out rd i 1 (role_known rd i 1 4 e) x) (zero_out rd i 2 (role_known rd i 2 4 e) y) (zero_out rd i 3 (role_known rd i 3 4 e) z)
entry_out {mode} {rd} {i} (Entry.pair_type e x y z) =
    three_words rd i (type_out rd i 1 (role_known rd i 1 5 e) x) (type_out rd i 2 (role_known rd i 2 5 e) y) (zero_out rd i 3 (role_known rd i 3 5 e) z)
entry_out {mode} {rd} {i} (Entry.type_variable e x y z) =
    three_words rd i (three_out rd i 1 (role_known rd i 1 6 e) x) (zero_out rd i 2 (role_known rd i 2 6 e) y) (zero_out rd i 3 (role_known rd i 3 6 e) z)
entry_out {mode} {rd} {i} (Entry.constant e x y z) =
    three_words rd i (type_out rd i 1 (role_known rd i 1 7 e) x) (name_out rd i 2 (role_known rd i 2 7 e) y) (zero_out rd i 3 (role_known rd i 3 7 e) z)
entry_out {mode} {rd} {i} (Entry.function e x y z) =
    three_words rd i (signature_out rd i 1 (role_known rd i 1 8 e) x) (four_out rd i 2 (role_known rd i 2 8 e) y) (name_out rd i 3 (role_known rd i 3 8 e) z)
entry_out {mode} {rd} {i} (Entry.bound_variable e x y z) =
    three_words rd i (index_out rd i 1 (role_known rd i 1 9 e) x) (type_out rd i 2 (role_known rd i 2 9 e) y) (zero_out rd i 3 (role_known rd i 3 9 e) z)
entry_out {mode} {rd} {i} (Entry.pair e x y z) =
    three_words rd i (term_out rd i 1 (role_known rd i 1 10 e) x) (term_out rd i 2 (role_known rd i 2 10 e) y) (type_out rd i 3 (role_known rd i 3 10 e) z)
entry_out {mode} {rd} {i} (Entry.product e x y z) =
    three_words rd i (term_out rd i 1 (role_known rd i 1 11 e) x) (term_out rd i 2 (role_known rd i 2 11 e) y) (type_out rd i 3 (role_known rd i 3 11 e) z)
entry_out {mode} {rd} {i} (Entry.powerset e x y z) =
    three_words rd i (term_out rd i 1 (role_known rd i 1 12 e) x) (type_out rd i 2 (role_known rd i 2 12 e) y) (zero_out rd i 3 (role_known rd i 3 12 e) z)
entry_out {mode} {rd} {i} (Entry.application e x y z) =
    three_words rd i (function_out rd i 1 (role_known rd i 1 13 e) x) (types_out rd i 2 (role_known rd i 2 13 e) y)
    (terms_out rd i 3 (role_known rd i 3 13 e) z)
entry_out {mode} {rd} {i} (Entry.falsity e x y z) =
    three_words rd i (zero_out rd i 1 (role_known rd i 1 14 e) x) (zero_out rd i 2 (role_known rd i 2 14 e) y) (zero_out rd i 3 (role_known rd i 3 14 e) z)
entry_out {mode} {rd} {i} (Entry.truth e x y z) =
    three_words rd i (zero_out rd i 1 (role_known rd i 1 15 e) x) (zero_out rd i 2 (role_known rd i 2 15 e) y) (zero_out rd i 3 (role_known rd i 3 15 e) z)
entry_out {mode} {rd} {i} (Entry.conjunction e x y z) =
    three_words rd i (formula_out rd i 1 (role_known rd i 1 16 e) x) (formula_out rd i 2 (role_known rd i 2 16 e) y)
    (zero_out rd i 3 (role_known rd i 3 16 e) z)
entry_out {mode} {rd} {i} (Entry.implication e x y z) =
    three_words rd i (formula_out rd i 1 (role_known rd i 1 17 e) x) (formula_out rd i 2 (role_known rd i 2 17 e) y)
    (zero_out rd i 3 (role_known rd i 3 17 e) z)
entry_out {mode} {rd} {i} (Entry.negation e x y z) =
    three_words rd i (formula_out rd i 1 (role_known rd i 1 18 e) x) (zero_out rd i 2 (role_known rd i 2 18 e) y) (zero_out rd i 3 (role_known rd i 3 18 e) z)
entry_out {mode} {rd} {i} (Entry.universal e x y z) =
    three_words rd i (type_out rd i 1 (role_known rd i 1 19 e) x) (formula_out rd i 2 (role_known rd i 2 19 e) y) (zero_out rd i 3 (role_known rd i 3 19 e) z)
entry_out {mode} {rd} {i} (Entry.equation e x y z) =
    three_words rd i (term_out rd i 1 (role_known rd i 1 20 e) x) (term_out rd i 2 (role_known rd i 2 20 e) y) (zero_out rd i 3 (role_known rd i 3 20 e) z)
entry_out {mode} {rd} {i} (Entry.membership e x y z) =
    three_words rd i (term_out rd i 1 (role_known rd i 1 21 e) x) (term_out rd i 2 (role_known rd i 2 21 e) y) (zero_out rd i 3 (role_known rd i 3 21 e) z)
entry_out {mode} {rd} {i} (Entry.for_all_types e x y z u) =
    three_words rd i (count_out rd i 1 (role_known rd i 1 22 e) x y) (formula_out rd i 2 (role_known rd i 2 22 e) z)
    (zero_out rd i 3 (role_known rd i 3 22 e) u)
entry_out {mode} {rd} {i} (Entry.choice e x y z) =
    three_words rd i (term_out rd i 1 (role_known rd i 1 23 e) x) (type_out rd i 2 (role_known rd i 2 23 e) y) (zero_out rd i 3 (role_known rd i 3 23 e) z)
entry_out {mode} {rd} {i} (Entry.rule_node r x y z) =
    let rule : (w : ℕ) → role_at rd i w ≡ rule_role w = λ w. role_known rd i w (rd i 0) refl ∙ rule_role_lem (rd i 0) (rule_least r) w in
    three_words rd i (rule_chain_out rd i 1 (rule 1) x) (rule_chain_out rd i 2 (rule 2) y) (zero_out rd i 3 (rule 3) z)

pub entry_kind : {mode : ℕ} {rd : Reader} {i : ℕ} → Entry mode rd i → Kind mode (rd i 0)
entry_kind (Entry.link e x y z) = Kind.table (omega arith) (omega arith)
entry_kind (Entry.name_record e x) = Kind.table (omega arith) (omega arith)
entry_kind (Entry.given_type e x y z) = Kind.table (omega arith) (omega arith)
entry_kind (Entry.set_type e x y z) = Kind.table (omega arith) (omega arith)
entry_kind (Entry.pair_type e x y z) = Kind.table (omega arith) (omega arith)
entry_kind (Entry.type_variable e x y z) = Kind.table (omega arith) (omega arith)
entry_kind (Entry.constant e x y z) = Kind.table (omega arith) (omega arith)
entry_kind (Entry.function e x y z) = Kind.table (omega arith) (omega arith)
entry_kind (Entry.bound_variable e x y z) = Kind.table (omega arith) (omega arith)
entry_kind (Entry.pair e x y z) = Kind.table (omega arith) (omega arith)
entry_kind (Entry.product e x y z) = Kind.table (omega arith) (omega arith)
entry_kind (Entry.powerset e x y z) = Kind.table (omega arith) (omega arith)
entry_kind (Entry.application e x y z) = Kind.table (omega arith) (omega arith)
entry_kind (Entry.falsity e x y z) = Kind.table (omega arith) (omega arith)
entry_kind (Entry.truth e x y z) = Kind.table (omega arith) (omega arith)
entry_kind (Entry.conjunction e x y z) = Kind.table (omega arith) (omega arith)
entry_kind (Entry.implication e x y z) = Kind.table (omega arith) (omega arith)
entry_kind (Entry.negation e x y z) = Kind.table (omega arith) (omega arith)
entry_kind (Entry.universal e x y z) = Kind.table (omega arith) (omega arith)
entry_kind (Entry.equation e x y z) = Kind.table (omega arith) (omega arith)
entry_kind (Entry.membership e x y z) = Kind.table (omega arith) (omega arith)
entry_kind (Entry.for_all_types e x y z u) = Kind.table (omega arith) (omega arith)
entry_kind (Entry.choice e x y z) = Kind.table (omega arith) (omega arith)
entry_kind (Entry.rule_node r x y z) = Kind.rule r

-- The same of the tests of range alone.
module _ (mode : ℕ) (rd : Reader) (i : ℕ) (fit_1 : range_at rd i 1 ≡ true) (fit_2 : range_at rd i 2 ≡ true) (fit_3 : range_at rd i 3 ≡ true) where
  role_at_lem : (w k : ℕ) → rd i 0 ≡ k → role_at rd i w ≡ role k w
  role_at_lem w k e = role_known rd i w k e

  table_ranges : 1 ≤ rd i 0 → rd i 0 ≤ 23 → Ranges mode rd i
  unfolding role if_lt if_eq
  table_ranges low high =
      by_kind (rd i 0) low high
      (λ e. Ranges.link e (zero_range rd i 2 (role_at_lem 2 1 e) fit_2))
      (λ e. Ranges.name_record e)
      (λ e. Ranges.given_type e (zero_range rd i 2 (role_at_lem 2 3 e) fit_2) (zero_range rd i 3 (role_at_lem 3 3 e) fit_3))
      (λ e. Ranges.set_type e (zero_range rd i 2 (role_at_lem 2 4 e) fit_2) (zero_range rd i 3 (role_at_lem 3 4 e) fit_3))
      (λ e. Ranges.pair_type e (zero_range rd i 3 (role_at_lem 3 5 e) fit_3))
      (λ e. Ranges.type_variable e
      (three_range rd i 1 (role_at_lem 1 6 e) fit_1) (zero_range rd i 2 (role_at_lem 2 6 e) fit_2) (zero_range rd i 3 (role_at_lem 3 6 e) fit_3))
      (λ e. Ranges.constant e (zero_range rd i 3 (role_at_lem 3 7 e) fit_3))
      (λ e. Ranges.function e (four_range rd i 2 (role_at_lem 2 8 e) fit_2))
      (λ e. Ranges.bound_variable e (index_range rd i 1 (role_at_lem 1 9 e) fit_1) (zero_range rd i 3 (role_at_lem 3 9 e) fit_3))
      (λ e. Ranges.pair e)
      (λ e. Ranges.product e)
      (λ e. Ranges.powerset e (zero_range rd i 3 (role_at_lem 3 12 e) fit_3))
      (λ e. Ranges.application e)
      (λ e. Ranges.falsity e (zero_range rd i 1 (role_at_lem 1 14 e) fit_1) (zero_range rd i 2 (role_at_lem 2 14 e) fit_2) (zero_range rd i 3 (role_at_lem 3 14 e) fit_3))
      (λ e. Ranges.truth e (zero_range rd i 1 (role_at_lem 1 15 e) fit_1) (zero_range rd i 2 (role_at_lem 2 15 e) fit_2) (zero_range rd i 3 (role_at_lem 3 15 e) fit_3))
      (λ e. Ranges.conjunction e (zero_range rd i 3 (role_at_lem 3 16 e) fit_3))
      (λ e. Ranges.implication e (zero_range rd i 3 (role_at_lem 3 17 e) fit_3))
      (λ e. Ranges.negation e (zero_range rd i 2 (role_at_lem 2 18 e) fit_2) (zero_range rd i 3 (role_at_lem 3 18 e) fit_3))
      (λ e. Ranges.universal e (zero_range rd i 3 (role_at_lem 3 19 e) fit_3))
      (λ e. Ranges.equation e (zero_range rd i 3 (role_at_lem 3 20 e) fit_3))
      (λ e. Ranges.membership e (zero_range rd i 3 (role_at_lem 3 21 e) fit_3))
      (λ e. let c = count_range rd i 1 (role_at_lem 1 22 e) fit_1 in
      Ranges.for_all_types e c.0 c.1 (zero_range rd i 3 (role_at_lem 3 22 e) fit_3))
      (λ e. Ranges.choice e (zero_range rd i 3 (role_at_lem 3 23 e) fit_3))

  pub ranges_in : Kind mode (rd i 0) → Ranges mode rd i
  unfolding role if_lt if_eq
  ranges_in (Kind.table low high) = table_ranges low high
  ranges_in (Kind.rule r) =
      Ranges.rule_node r (zero_range rd i 3 (role_known rd i 3 (rd i 0) refl ∙ rule_role_lem (rd i 0) (rule_least r) 3) fit_3)

three_words_range : (rd : Reader) (i : ℕ) → range_at rd i 1 ≡ true → range_at rd i 2 ≡ true → range_at rd i 3 ≡ true → ranges_fit rd i ≡ true
unfolding ranges_fit
three_words_range rd i a b c = both_join _ _ a (both_join _ _ b c)

pub ranges_out : {mode : ℕ} {rd : Reader} {i : ℕ} → Ranges mode rd i → ranges_fit rd i ≡ true
unfolding role if_lt if_eq in_range
ranges_out {mode} {rd} {i} (Ranges.link e x) =
    three_words_range rd i (range_out rd i 1 10 (role_known rd i 1 1 e) refl)
    (range_out rd i 2 0 (role_known rd i 2 1 e) (range_zero rd i 2 x))
    (range_out rd i 3 11 (role_known rd i 3 1 e) refl)
ranges_out {mode} {rd} {i} (Ranges.name_record e) =
    three_words_range rd i (range_out rd i 1 1 (role_known rd i 1 2 e) refl)
    (range_out rd i 2 1 (role_known rd i 2 2 e) refl)
    (range_out rd i 3 7 (role_known rd i 3 2 e) refl)
ranges_out {mode} {rd} {i} (Ranges.given_type e x y) =
    three_words_range rd i (range_out rd i 1 6 (role_known rd i 1 3 e) refl)
    (range_out rd i 2 0 (role_known rd i 2 3 e) (range_zero rd i 2 x))
    (range_out rd i 3 0 (role_known rd i 3 3 e) (range_zero rd i 3 y))
ranges_out {mode} {rd} {i} (Ranges.set_type e x y) =
    three_words_range rd i (range_out rd i 1 12 (role_known rd i 1 4 e) refl)
    (range_out rd i 2 0 (role_known rd i 2 4 e) (range_zero rd i 2 x))
    (range_out rd i 3 0 (role_known rd i 3 4 e) (range_zero rd i 3 y))
ranges_out {mode} {rd} {i} (Ranges.pair_type e x) =
    three_words_range rd i (range_out rd i 1 12 (role_known rd i 1 5 e) refl)
    (range_out rd i 2 12 (role_known rd i 2 5 e) refl)
    (range_out rd i 3 0 (role_known rd i 3 5 e) (range_zero rd i 3 x))
ranges_out {mode} {rd} {i} (Ranges.type_variable e x y z) =
    three_words_range rd i (range_out rd i 1 2 (role_known rd i 1 6 e) (range_three rd i 1 x))
    (range_out rd i 2 0 (role_known rd i 2 6 e) (range_zero rd i 2 y))
    (range_out rd i 3 0 (role_known rd i 3 6 e) (range_zero rd i 3 z))
ranges_out {mode} {rd} {i} (Ranges.constant e x) =
    three_words_range rd i (range_out rd i 1 12 (role_known rd i 1 7 e) refl)
    (range_out rd i 2 6 (role_known rd i 2 7 e) refl)
    (range_out rd i 3 0 (role_known rd i 3 7 e) (range_zero rd i 3 x))
ranges_out {mode} {rd} {i} (Ranges.function e x) =
    three_words_range rd i (range_out rd i 1 9 (role_known rd i 1 8 e) refl)
    (range_out rd i 2 3 (role_known rd i 2 8 e) (range_four rd i 2 x))
    (range_out rd i 3 6 (role_known rd i 3 8 e) refl)
ranges_out {mode} {rd} {i} (Ranges.bound_variable e x y) =
    three_words_range rd i (range_out rd i 1 4 (role_known rd i 1 9 e) (range_index rd i 1 x))
    (range_out rd i 2 12 (role_known rd i 2 9 e) refl)
    (range_out rd i 3 0 (role_known rd i 3 9 e) (range_zero rd i 3 y))
ranges_out {mode} {rd} {i} (Ranges.pair e) =
    three_words_range rd i (range_out rd i 1 13 (role_known rd i 1 10 e) refl)
    (range_out rd i 2 13 (role_known rd i 2 10 e) refl)
    (range_out rd i 3 12 (role_known rd i 3 10 e) refl)
ranges_out {mode} {rd} {i} (Ranges.product e) =
    three_words_range rd i (range_out rd i 1 13 (role_known rd i 1 11 e) refl)
    (range_out rd i 2 13 (role_known rd i 2 11 e) refl)
    (range_out rd i 3 12 (role_known rd i 3 11 e) refl)
ranges_out {mode} {rd} {i} (Ranges.powerset e x) =
    three_words_range rd i (range_out rd i 1 13 (role_known rd i 1 12 e) refl)
    (range_out rd i 2 12 (role_known rd i 2 12 e) refl)
    (range_out rd i 3 0 (role_known rd i 3 12 e) (range_zero rd i 3 x))
ranges_out {mode} {rd} {i} (Ranges.application e) =
    three_words_range rd i (range_out rd i 1 15 (role_known rd i 1 13 e) refl)
    (range_out rd i 2 16 (role_known rd i 2 13 e) refl)
    (range_out rd i 3 17 (role_known rd i 3 13 e) refl)
ranges_out {mode} {rd} {i} (Ranges.falsity e x y z) =
    three_words_range rd i (range_out rd i 1 0 (role_known rd i 1 14 e) (range_zero rd i 1 x))
    (range_out rd i 2 0 (role_known rd i 2 14 e) (range_zero rd i 2 y))
    (range_out rd i 3 0 (role_known rd i 3 14 e) (range_zero rd i 3 z))
ranges_out {mode} {rd} {i} (Ranges.truth e x y z) =
    three_words_range rd i (range_out rd i 1 0 (role_known rd i 1 15 e) (range_zero rd i 1 x))
    (range_out rd i 2 0 (role_known rd i 2 15 e) (range_zero rd i 2 y))
    (range_out rd i 3 0 (role_known rd i 3 15 e) (range_zero rd i 3 z))
ranges_out {mode} {rd} {i} (Ranges.conjunction e x) =
    three_words_range rd i (range_out rd i 1 14 (role_known rd i 1 16 e) refl)
    (range_out rd i 2 14 (role_known rd i 2 16 e) refl)
    (range_out rd i 3 0 (role_known rd i 3 16 e) (range_zero rd i 3 x))
ranges_out {mode} {rd} {i} (Ranges.implication e x) =
    three_words_range rd i (range_out rd i 1 14 (role_known rd i 1 17 e) refl)
    (range_out rd i 2 14 (role_known rd i 2 17 e) refl)
    (range_out rd i 3 0 (role_known rd i 3 17 e) (range_zero rd i 3 x))
ranges_out {mode} {rd} {i} (Ranges.negation e x y) =
    three_words_range rd i (range_out rd i 1 14 (role_known rd i 1 18 e) refl)
    (range_out rd i 2 0 (role_known rd i 2 18 e) (range_zero rd i 2 x))
    (range_out rd i 3 0 (role_known rd i 3 18 e) (range_zero rd i 3 y))
ranges_out {mode} {rd} {i} (Ranges.universal e x) =
    three_words_range rd i (range_out rd i 1 12 (role_known rd i 1 19 e) refl)
    (range_out rd i 2 14 (role_known rd i 2 19 e) refl)
    (range_out rd i 3 0 (role_known rd i 3 19 e) (range_zero rd i 3 x))
ranges_out {mode} {rd} {i} (Ranges.equation e x) =
    three_words_range rd i (range_out rd i 1 13 (role_known rd i 1 20 e) refl)
    (range_out rd i 2 13 (role_known rd i 2 20 e) refl)
    (range_out rd i 3 0 (role_known rd i 3 20 e) (range_zero rd i 3 x))
ranges_out {mode} {rd} {i} (Ranges.membership e x) =
    three_words_range rd i (range_out rd i 1 13 (role_known rd i 1 21 e) refl)
    (range_out rd i 2 13 (role_known rd i 2 21 e) refl)
    (range_out rd i 3 0 (role_known rd i 3 21 e) (range_zero rd i 3 x))
ranges_out {mode} {rd} {i} (Ranges.for_all_types e p q x) =
    three_words_range rd i (range_out rd i 1 5 (role_known rd i 1 22 e) (range_count rd i 1 p q))
    (range_out rd i 2 14 (role_known rd i 2 22 e) refl)
    (range_out rd i 3 0 (role_known rd i 3 22 e) (range_zero rd i 3 x))
ranges_out {mode} {rd} {i} (Ranges.choice e x) =
    three_words_range rd i (range_out rd i 1 13 (role_known rd i 1 23 e) refl)
    (range_out rd i 2 12 (role_known rd i 2 23 e) refl)
    (range_out rd i 3 0 (role_known rd i 3 23 e) (range_zero rd i 3 x))
ranges_out {mode} {rd} {i} (Ranges.rule_node r z) =
    let rule : (w : ℕ) → role_at rd i w ≡ rule_role w = λ w. role_known rd i w (rd i 0) refl ∙ rule_role_lem (rd i 0) (rule_least r) w in
    three_words_range rd i (range_out rd i 1 8 (rule 1) refl) (range_out rd i 2 8 (rule 2) refl) (range_out rd i 3 0 (rule 3) (range_zero rd i 3 z))

pub ranges_kind : {mode : ℕ} {rd : Reader} {i : ℕ} → Ranges mode rd i → Kind mode (rd i 0)
ranges_kind (Ranges.link e x) = Kind.table (omega arith) (omega arith)
ranges_kind (Ranges.name_record e) = Kind.table (omega arith) (omega arith)
ranges_kind (Ranges.given_type e x y) = Kind.table (omega arith) (omega arith)
ranges_kind (Ranges.set_type e x y) = Kind.table (omega arith) (omega arith)
ranges_kind (Ranges.pair_type e x) = Kind.table (omega arith) (omega arith)
ranges_kind (Ranges.type_variable e x y z) = Kind.table (omega arith) (omega arith)
ranges_kind (Ranges.constant e x) = Kind.table (omega arith) (omega arith)
ranges_kind (Ranges.function e x) = Kind.table (omega arith) (omega arith)
ranges_kind (Ranges.bound_variable e x y) = Kind.table (omega arith) (omega arith)
ranges_kind (Ranges.pair e) = Kind.table (omega arith) (omega arith)
ranges_kind (Ranges.product e) = Kind.table (omega arith) (omega arith)
ranges_kind (Ranges.powerset e x) = Kind.table (omega arith) (omega arith)
ranges_kind (Ranges.application e) = Kind.table (omega arith) (omega arith)
ranges_kind (Ranges.falsity e x y z) = Kind.table (omega arith) (omega arith)
ranges_kind (Ranges.truth e x y z) = Kind.table (omega arith) (omega arith)
ranges_kind (Ranges.conjunction e x) = Kind.table (omega arith) (omega arith)
ranges_kind (Ranges.implication e x) = Kind.table (omega arith) (omega arith)
ranges_kind (Ranges.negation e x y) = Kind.table (omega arith) (omega arith)
ranges_kind (Ranges.universal e x) = Kind.table (omega arith) (omega arith)
ranges_kind (Ranges.equation e x) = Kind.table (omega arith) (omega arith)
ranges_kind (Ranges.membership e x) = Kind.table (omega arith) (omega arith)
ranges_kind (Ranges.for_all_types e x y z) = Kind.table (omega arith) (omega arith)
ranges_kind (Ranges.choice e x) = Kind.table (omega arith) (omega arith)
ranges_kind (Ranges.rule_node r z) = Kind.rule r

-- chain lengths
pub chains_in : (rd : Reader) (i : ℕ) → name_length_fits rd i ≡ true → item_chains_fit rd i ≡ true → ChainLengths rd i
unfolding name_length_fits item_chains_fit types_fit arguments_fit
chains_in rd i n h =
    let other : rd i 0 ≡ 13 → rd i 0 ≡ 8 → ⊥ = λ p q. omega arith in
    let applied : rd i 0 ≡ 13 → both (types_fit rd (rd i 2)) (arguments_fit rd (rd i 3)) ≡ true =
    λ e. sym (when_equal _ true (rd i 0) 13 e) ∙ sym (when_different (types_fit rd (rd i 1)) _ (rd i 0) 8 (other e)) ∙ h in
    record {
      name_records = leb-true _ 4 n;
      function_types = λ e. between_parts 1 5 _ (sym (when_equal _ _ (rd i 0) 8 e) ∙ h);
      application_types = λ e. between_parts 1 5 _ (both_parts _ _ (applied e)).0;
      application_arguments = λ e. leb-true _ 4 (both_parts _ _ (applied e)).1;
    }

pub name_fits : (rd : Reader) (i : ℕ) → ChainLengths rd i → name_length_fits rd i ≡ true
unfolding name_length_fits
name_fits rd i c = le-leb _ 4 c.name_records

pub chains_out : (rd : Reader) (i : ℕ) → ChainLengths rd i → item_chains_fit rd i ≡ true
unfolding item_chains_fit types_fit arguments_fit if_eq
chains_out rd i c = go (eqb (rd i 0) 8) refl (eqb (rd i 0) 13) refl
  where
    go : (a : Bool) → eqb (rd i 0) 8 ≡ a → (b : Bool) → eqb (rd i 0) 13 ≡ b →
        ◌≡◌ {A = Bool}
        (elim a [
          | true ↦ types_fit rd (rd i 1)
          | false ↦ elim b [ true ↦ both (types_fit rd (rd i 2)) (arguments_fit rd (rd i 3)) | false ↦ true ]
        ]) true
    go true p b q = let t = c.function_types (eqb-true _ 8 p) in between_out 1 5 _ t.0 t.1
    go false p true q =
        let e = eqb-true _ 13 q in
        let t = c.application_types e in
        both_join _ _ (between_out 1 5 _ t.0 t.1) (le-leb _ 4 (c.application_arguments e))
    go false p false q = refl

-- kinds with a weight
pub weighed_out : {k : ℕ} → Weighed k → is_weighed k ≡ true
unfolding is_weighed if_eq
weighed_out (Weighed.type e) = ap (λ (c : ℕ). if_eq c 3 true (if_eq c 4 true (if_eq c 5 true (if_eq c 7 true false)))) e
weighed_out (Weighed.term e) = ap (λ (c : ℕ). if_eq c 3 true (if_eq c 4 true (if_eq c 5 true (if_eq c 7 true false)))) e
weighed_out (Weighed.formula e) = ap (λ (c : ℕ). if_eq c 3 true (if_eq c 4 true (if_eq c 5 true (if_eq c 7 true false)))) e
weighed_out (Weighed.for_all_types e) = ap (λ (c : ℕ). if_eq c 3 true (if_eq c 4 true (if_eq c 5 true (if_eq c 7 true false)))) e

pub weighed_in : (k : ℕ) → is_weighed k ≡ true → Weighed k
unfolding is_weighed if_eq
weighed_in k h = go (eqb (class k) 3) refl (eqb (class k) 4) refl (eqb (class k) 5) refl (eqb (class k) 7) refl h
  where
    go : (a : Bool) → eqb (class k) 3 ≡ a → (b : Bool) → eqb (class k) 4 ≡ b → (c : Bool) → eqb (class k) 5 ≡ c → (d : Bool) → eqb (class k) 7 ≡ d →
        ◌≡◌ {A = Bool}
        (elim a [
          | true ↦ true
          | false ↦ elim b [ true ↦ true | false ↦ elim c [ true ↦ true | false ↦ elim d [ true ↦ true | false ↦ false ] ] ]
        ]) true → Weighed k
    go true p b q c r d s h = Weighed.type (eqb-true _ 3 p)
    go false p true q c r d s h = Weighed.term (eqb-true _ 4 q)
    go false p false q true r d s h = Weighed.formula (eqb-true _ 5 r)
    go false p false q false r true s h = Weighed.for_all_types (eqb-true _ 7 s)
    go false p false q false r false s h = absurd (false≢true h)

-- weights that are allowed
pub light_in : (mode w : ℕ) → w ≤ most_weight mode → Light mode w
unfolding most_weight if_eq
light_in mode w h = go (eqb mode 2) refl h
  where
    go : (b : Bool) → eqb mode 2 ≡ b → w ≤ elim b as (λ x. ℕ) [ true ↦ 16384 | false ↦ 4096 ] → Light mode w
    go true e h = Light.in_derivation (eqb-true mode 2 e) (omega (arith, h))
    go false e h = Light.elsewhere (eqb-false mode 2 e) (omega (arith, h))

pub light_out : {mode w : ℕ} → Light mode w → w ≤ most_weight mode
unfolding most_weight
light_out {mode} {w} (Light.elsewhere other h) = let e : most_weight mode ≡ 4096 = when_different 16384 4096 mode 2 other in rw e h
light_out {mode} {w} (Light.in_derivation m h) = let e : most_weight mode ≡ 16384 = when_equal 16384 4096 mode 2 m in rw e h

-- What the words of a record that passes its tests give.
module _ (rd : Reader) (i : ℕ) (fits : (w : ℕ) → 1 ≤ w → w ≤ 3 → Fit rd i w) where
  named : (k w : ℕ) → rd i 0 ≡ k → role k w ≡ 6 → 1 ≤ w → w ≤ 3 → 1 ≤ rd i w
  named k w e r p q = (name_in rd i w (role_known rd i w k e ∙ r) (fits w p q)).given

  -- a symbol names a name
  pub symbol_names : Symbol (rd i 0) → name_of rd i ≡ 0 → ⊥
  unfolding role if_lt name_of if_eq
  symbol_names (Symbol.given_type e) z =
      let n = named 3 1 e refl (omega arith) (omega arith) in
      let q : name_of rd i ≡ rd i 1 = ap (λ (k : ℕ). if_eq k 3 (rd i 1) (if_eq k 7 (rd i 2) (if_eq k 8 (rd i 3) 0))) e in
      omega arith
  symbol_names (Symbol.other (ConstantOrFunction.constant e)) z =
      let n = named 7 2 e refl (omega arith) (omega arith) in
      let q : name_of rd i ≡ rd i 2 = ap (λ (k : ℕ). if_eq k 3 (rd i 1) (if_eq k 7 (rd i 2) (if_eq k 8 (rd i 3) 0))) e in
      omega arith
  symbol_names (Symbol.other (ConstantOrFunction.function e)) z =
      let n = named 8 3 e refl (omega arith) (omega arith) in
      let q : name_of rd i ≡ rd i 3 = ap (λ (k : ℕ). if_eq k 3 (rd i 1) (if_eq k 7 (rd i 2) (if_eq k 8 (rd i 3) 0))) e in
      omega arith

  -- the words of an application are references to smaller records, or 0
  pub application_words : rd i 0 ≡ 13 → (lower rd i 1 ≡ rd i 1) × (lower rd i 2 ≡ rd i 2) × (lower rd i 3 ≡ rd i 3)
  unfolding role if_lt lower if_eq
  application_words e =
      let f = function_in rd i 1 (role_known rd i 1 13 e) (fits 1 (omega arith) (omega arith)) in
      let t = types_in rd i 2 (role_known rd i 2 13 e) (fits 2 (omega arith) (omega arith)) in
      let a = terms_in rd i 3 (role_known rd i 3 13 e) (fits 3 (omega arith) (omega arith)) in (
        when_less (rd i 1) 0 (rd i 1) i f.smaller,
        when_less (rd i 2) 0 (rd i 2) i t.link.smaller,
        ⊎_elim (λ z. lower_zero rd i 3 z ∙ sym z) (λ n. when_less (rd i 3) 0 (rd i 3) i n.link.smaller) a,
      )
