-- Each of the tests 3 to 10 of a record passes exactly where the part of `WellFormedRecord` holds that it is about, given what the tests before it say;
-- so a record is well formed exactly where it has none of the refusals.
use Rattle.std.specs.Prelude.{ℕ, ◌≤◌, Bool, not, leb}
use Rattle.std.proofs.Math.Path.{◌≡◌, refl}
use Rattle.std.proofs.Common.{sym, ◌∙◌, arith}
use Rattle.std.proofs.Math.Bool.{true, false}
use Rattle.std.proofs.Math.Dec.{eqb}
use borrow.Author.Tests.{eqb-true, eqb-false, le-leb, leb-true, not-true}
use Rattle.reader.specs.Words.{Reader}
use Rattle.reader.specs.Tests.{both, if_eq, if_true}
use Rattle.reader.specs.Trees.{tree}
use Rattle.reader.specs.Weight.{is_weighed, weight}
use Rattle.reader.specs.Names.{name_of, is_name, name_taken}
use Rattle.reader.specs.Typing.{is_typed}
use Rattle.reader.specs.Records.{kind_fits, range_at, ranges_fit, refers_at, references_fit, name_length_fits, item_chains_fit, chains_fit}
use Rattle.reader.specs.Records.{most_weight, weight_fits, name_spelled, name_is_free, typing_fits}
use Rattle.reader_laws.specs.Scan.{both_parts, both_join, when_true, when_false, when_equal, when_different}
use Rattle.reader_laws.specs.Record.{Sound}
use Rattle.reader_meaning.specs.Table.{Kind, Entry, Ranges, ChainLengths}
use Rattle.reader_meaning.specs.Spelling.{Symbol}
use Rattle.reader_meaning.specs.WellFormed.{OwnName, LightRecord, NamedWell, TypedWell, WellFormedRecord}
use Rattle.reader_meaning.proofs.TableLaws.{Fit, kind_in, kind_out, entry_in, entry_out, entry_kind, ranges_in, ranges_out, ranges_kind, three_words}
use Rattle.reader_meaning.proofs.TableLaws.{chains_in, name_fits, chains_out, weighed_in, weighed_out, light_in, light_out}
use Rattle.reader_meaning.proofs.TableLaws.{symbol_names, application_words}
use Rattle.reader_meaning.proofs.SpellingLaws.{good_in, good_out, own_type_in, own_in, own_out, symbol_of}
use Rattle.reader_meaning.proofs.TypedLaws.{typed_in, typed_out}

module _ (mode : ℕ) (rd : Reader) (i : ℕ) where
  -- 3
  pub kind_test_in : kind_fits mode rd i ≡ true → Kind mode (rd i 0)
  unfolding kind_fits
  kind_test_in h = kind_in mode (rd i 0) h

  pub kind_test_out : Kind mode (rd i 0) → kind_fits mode rd i ≡ true
  unfolding kind_fits
  kind_test_out k = kind_out k

  -- 4
  pub ranges_test_in : Kind mode (rd i 0) → ranges_fit rd i ≡ true → Ranges mode rd i
  unfolding ranges_fit
  ranges_test_in k h =
      let p = both_parts (range_at rd i 1) (both (range_at rd i 2) (range_at rd i 3)) h in
      let q = both_parts (range_at rd i 2) (range_at rd i 3) p.1 in
      ranges_in mode rd i p.0 q.0 q.1 k

  pub ranges_test_out : Ranges mode rd i → ranges_fit rd i ≡ true
  ranges_test_out r = ranges_out r

  -- 5
  pub references_test_in : Ranges mode rd i → references_fit rd i ≡ true → Entry mode rd i
  unfolding ranges_fit references_fit
  references_test_in r h =
      let p = both_parts (range_at rd i 1) (both (range_at rd i 2) (range_at rd i 3)) (ranges_out r) in
      let q = both_parts (range_at rd i 2) (range_at rd i 3) p.1 in
      let u = both_parts (refers_at rd i 1) (both (refers_at rd i 2) (refers_at rd i 3)) h in
      let v = both_parts (refers_at rd i 2) (refers_at rd i 3) u.1 in
      entry_in mode rd i (three_words rd i (p.0, u.0) (q.0, v.0) (q.1, v.1)) (ranges_kind r)

  pub references_test_out : Entry mode rd i → references_fit rd i ≡ true
  unfolding references_fit
  references_test_out e =
      let f = entry_out e in
      both_join (refers_at rd i 1) (both (refers_at rd i 2) (refers_at rd i 3)) (f 1 (omega arith) (omega arith)).1
      (both_join (refers_at rd i 2) (refers_at rd i 3) (f 2 (omega arith) (omega arith)).1 (f 3 (omega arith) (omega arith)).1)

  -- a record of the table has its kind and its ranges
  pub entry_ranges : Entry mode rd i → Ranges mode rd i
  entry_ranges e =
      let f = entry_out e in
      ranges_in mode rd i (f 1 (omega arith) (omega arith)).0 (f 2 (omega arith) (omega arith)).0 (f 3 (omega arith) (omega arith)).0 (entry_kind e)

  -- 6
  pub chains_test_in : chains_fit rd i ≡ true → ChainLengths rd i
  unfolding chains_fit
  chains_test_in h = let p = both_parts (name_length_fits rd i) (item_chains_fit rd i) h in chains_in rd i p.0 p.1

  pub chains_test_out : ChainLengths rd i → chains_fit rd i ≡ true
  unfolding chains_fit
  chains_test_out c = both_join (name_length_fits rd i) (item_chains_fit rd i) (name_fits rd i c) (chains_out rd i c)

  -- 7
  pub weight_test_in : weight_fits mode rd i ≡ true → LightRecord mode rd i
  unfolding weight_fits
  weight_test_in h w =
      light_in mode (weight (tree rd i))
      (leb-true (weight (tree rd i)) (most_weight mode) (sym (when_true _ true (is_weighed (rd i 0)) (weighed_out w)) ∙ h))

  pub weight_test_out : LightRecord mode rd i → weight_fits mode rd i ≡ true
  unfolding weight_fits
  weight_test_out l = go (is_weighed (rd i 0)) refl
    where
      go : (b : Bool) → is_weighed (rd i 0) ≡ b → if_true b (leb (weight (tree rd i)) (most_weight mode)) true ≡ true
      go true e = when_true _ true true refl ∙ le-leb (weight (tree rd i)) (most_weight mode) (light_out (l (weighed_in _ e)))
      go false e = when_false _ true false refl

  -- what is asked of symbols alone
  symbols_only : (test : Bool) → (Symbol (rd i 0) → test ≡ true) → if_eq (name_of rd i) 0 true test ≡ true
  unfolding if_eq
  symbols_only test f = go (eqb (name_of rd i) 0) refl
    where
      go : (b : Bool) → eqb (name_of rd i) 0 ≡ b → ◌≡◌ {A = Bool} (elim b [ true ↦ true | false ↦ test ]) true
      go true e = refl
      go false e = f (symbol_of rd i (eqb-false _ 0 e))

  of_symbols : (test : Bool) → Entry mode rd i → if_eq (name_of rd i) 0 true test ≡ true → Symbol (rd i 0) → test ≡ true
  of_symbols test e h y = sym (when_different true test (name_of rd i) 0 (symbol_names rd i (entry_out e) y)) ∙ h

  -- 8
  pub name_test_in : Entry mode rd i → name_spelled rd i ≡ true → NamedWell rd i
  unfolding name_spelled if_eq
  name_test_in e h y = good_in rd i (of_symbols (is_name rd i) e h y)

  pub name_test_out : NamedWell rd i → name_spelled rd i ≡ true
  unfolding name_spelled if_eq
  name_test_out g = symbols_only (is_name rd i) (λ y. good_out rd i (g y))

  -- 9
  pub own_test_in : Entry mode rd i → name_is_free rd i ≡ true → OwnName rd i
  unfolding name_is_free if_eq
  own_test_in e h =
      let taken : Symbol (rd i 0) → name_taken rd i ≡ false = λ y. not-true (name_taken rd i) (of_symbols (not (name_taken rd i)) e h y) in
      record { of_types = λ k. own_type_in rd i (taken (Symbol.given_type k)) k; of_others = λ k. own_in rd i (taken (Symbol.other k)) k }

  pub own_test_out : OwnName rd i → name_is_free rd i ≡ true
  unfolding name_is_free if_eq
  own_test_out o = symbols_only (not (name_taken rd i)) (λ y. rw (own_out rd i y o.of_types o.of_others))

  -- 10
  pub typing_test_in : Entry mode rd i → typing_fits mode rd i ≡ true → TypedWell mode rd i
  unfolding typing_fits
  typing_test_in e h other = typed_in rd i (application_words rd i (entry_out e)) (sym (when_different true (is_typed rd i) mode 2 other) ∙ h)

  pub typing_test_out : Entry mode rd i → 1 ≤ i → TypedWell mode rd i → typing_fits mode rd i ≡ true
  unfolding typing_fits
  typing_test_out e pos t = go (eqb mode 2) refl
    where
      go : (b : Bool) → eqb mode 2 ≡ b → if_eq mode 2 true (is_typed rd i) ≡ true
      go true m = when_equal true (is_typed rd i) mode 2 (eqb-true mode 2 m)
      go false m =
          let other = eqb-false mode 2 m in
          when_different true (is_typed rd i) mode 2 other ∙ typed_out rd i pos (application_words rd i (entry_out e)) (t other)

  -- A record without a fault is well formed, and the other way round.
  pub record_in : Sound mode rd i → WellFormedRecord mode rd i
  unfolding chains_fit
  record_in s =
      let fits : (w : ℕ) → 1 ≤ w → w ≤ 3 → Fit rd i w = λ w p q. (s.range w p q, s.reference w p q) in
      let e : Entry mode rd i = entry_in mode rd i fits (kind_in mode (rd i 0) s.kind) in
      record {
        entry = e;
        chain_lengths = chains_in rd i s.name_length s.chains;
        weighs = weight_test_in s.weighs;
        good_name = name_test_in e s.named;
        own_name = own_test_in e s.free;
        typed = typing_test_in e s.typed;
      }

  pub record_out : 1 ≤ i → WellFormedRecord mode rd i → Sound mode rd i
  record_out pos r =
      let fits = entry_out r.entry in
      record {
        kind = kind_out (entry_kind r.entry);
        range = λ w p q. (fits w p q).0;
        reference = λ w p q. (fits w p q).1;
        name_length = name_fits rd i r.chain_lengths;
        chains = chains_out rd i r.chain_lengths;
        weighs = weight_test_out r.weighs;
        named = name_test_out r.good_name;
        free = own_test_out r.own_name;
        typed = typing_test_out r.entry pos r.typed;
      }
