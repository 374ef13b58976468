-- The refusal of a record is the definition's.
use Rattle.std.specs.Prelude.{ℕ, ◌≤◌, ◌≡◌, Bool, true, false, eqb}
use Rattle.std.proofs.Math.Path.{refl, ap, subst}
use Rattle.std.proofs.Common.{sym, ◌∙◌, arith}
use Rattle.reader.specs.Words.{Reader}
use Rattle.reader.specs.Tests.{demand, or_else}
use Rattle.reader.specs.Records.{kind_fits, ranges_fit, references_fit, chains_fit, weight_fits, name_spelled, name_is_free, typing_fits}
use Rattle.reader.specs.Records.{words_fault, content_fault, record_fault}
use Rattle.reader_laws.specs.NotionLaws.{not_so, failed}
use Rattle.reader_meaning.specs.Table.{Entry, Ranges}
use Rattle.reader_meaning.specs.Refused.{RecordRefused}
use Rattle.reader_meaning.proofs.TableLaws.{ranges_kind}
use Rattle.reader_meaning.proofs.RecordLaws.{kind_test_in, kind_test_out, ranges_test_in, ranges_test_out, references_test_in, references_test_out}
use Rattle.reader_meaning.proofs.RecordLaws.{entry_ranges, chains_test_in, chains_test_out, weight_test_in, weight_test_out, name_test_in, name_test_out}
use Rattle.reader_meaning.proofs.RecordLaws.{own_test_in, own_test_out, typing_test_in, typing_test_out}

pub demand_true : (b : Bool) (n rest : ℕ) → b ≡ true → demand b n rest ≡ rest
unfolding demand
demand_true b n rest e = rw (e, demand)

pub demand_false : (b : Bool) (n rest : ℕ) → b ≡ false → demand b n rest ≡ n
unfolding demand
demand_false b n rest e = rw (e, demand)

-- a test that fails, or passes
by_test : (P : ℕ → Type 0) (t : Bool) (n rest : ℕ) → (t ≡ false → P n) → (t ≡ true → P rest) → P (demand t n rest)
unfolding demand
by_test P true n rest f g = g refl
by_test P false n rest f g = f refl

or_demand : (b : Bool) (n rest x : ℕ) → eqb n 0 ≡ false → or_else (demand b n rest) x ≡ demand b n (or_else rest x)
unfolding or_else demand
or_demand true n rest x h = refl
or_demand false n rest x h = rw (h, or_else)

module _ (mode : ℕ) (rd : Reader) (i : ℕ) where
  -- the tests one after the other
  after_words : ℕ
  after_words = demand (weight_fits mode rd i) 7 (demand (name_spelled rd i) 8 (demand (name_is_free rd i) 9 (demand (typing_fits mode rd i) 10 0)))

  tests_are : record_fault mode rd i ≡
      demand (kind_fits mode rd i) 3 (demand (ranges_fit rd i) 4 (demand (references_fit rd i) 5 (demand (chains_fit rd i) 6 after_words)))
  unfolding record_fault words_fault content_fault or_else after_words
  tests_are =
      or_demand (kind_fits mode rd i) 3 _ _ refl ∙ ap (demand (kind_fits mode rd i) 3)
      (or_demand (ranges_fit rd i) 4 _ _ refl ∙ ap (demand (ranges_fit rd i) 4)
      (or_demand (references_fit rd i) 5 _ _ refl ∙ ap (demand (references_fit rd i) 5) (or_demand (chains_fit rd i) 6 _ _ refl)))

  -- a record with a fault is refused with its number
  Faulty : ℕ → Type 0
  Faulty r = (r ≡ 0 → ⊥) → RecordRefused mode rd i r

  pub refused_in : 1 ≤ i → (record_fault mode rd i ≡ 0 → ⊥) → RecordRefused mode rd i (record_fault mode rd i)
  unfolding Faulty after_words
  refused_in pos h =
      subst Faulty (sym tests_are)
      (by_test Faulty (kind_fits mode rd i) 3 _ (λ e z. RecordRefused.kind (λ k. failed _ e (kind_test_out mode rd i k)))
      (λ e3. let k = kind_test_in mode rd i e3 in
      by_test Faulty (ranges_fit rd i) 4 _ (λ e z. RecordRefused.range k (λ g. failed _ e (ranges_test_out mode rd i g)))
      (λ e4. let g = ranges_test_in mode rd i k e4 in
      by_test Faulty (references_fit rd i) 5 _ (λ e z. RecordRefused.reference g (λ y. failed _ e (references_test_out mode rd i y)))
      (λ e5. let y = references_test_in mode rd i g e5 in
      by_test Faulty (chains_fit rd i) 6 _ (λ e z. RecordRefused.chain_length y (λ c. failed _ e (chains_test_out mode rd i c)))
      (λ e6. let c = chains_test_in mode rd i e6 in
      by_test Faulty (weight_fits mode rd i) 7 _ (λ e z. RecordRefused.weight y c (λ l. failed _ e (weight_test_out mode rd i l)))
      (λ e7. let l = weight_test_in mode rd i e7 in
      by_test Faulty (name_spelled rd i) 8 _ (λ e z. RecordRefused.name y c l (λ n. failed _ e (name_test_out mode rd i n)))
      (λ e8. let n = name_test_in mode rd i y e8 in
      by_test Faulty (name_is_free rd i) 9 _ (λ e z. RecordRefused.name_taken y c l n (λ o. failed _ e (own_test_out mode rd i o)))
      (λ e9. let o = own_test_in mode rd i y e9 in
      by_test Faulty (typing_fits mode rd i) 10 0 (λ e z. RecordRefused.typing y c l n o (λ t. failed _ e (typing_test_out mode rd i y pos t)))
      (λ e z. absurd (z refl))))))))))
      h

  -- and the other way round
  kind_passes : Entry mode rd i → kind_fits mode rd i ≡ true
  kind_passes y = kind_test_out mode rd i (ranges_kind (entry_ranges mode rd i y))

  up_to_ranges : Ranges mode rd i → record_fault mode rd i ≡ demand (references_fit rd i) 5 (demand (chains_fit rd i) 6 after_words)
  up_to_ranges g =
      tests_are ∙ demand_true (kind_fits mode rd i) 3 _ (kind_test_out mode rd i (ranges_kind g))
      ∙ demand_true (ranges_fit rd i) 4 _ (ranges_test_out mode rd i g)

  up_to_references : Entry mode rd i → record_fault mode rd i ≡ demand (chains_fit rd i) 6 after_words
  up_to_references y = up_to_ranges (entry_ranges mode rd i y) ∙ demand_true (references_fit rd i) 5 _ (references_test_out mode rd i y)

  pub refused_out : {r : ℕ} → RecordRefused mode rd i r → record_fault mode rd i ≡ r
  unfolding after_words
  refused_out (RecordRefused.kind none) =
      tests_are ∙ demand_false (kind_fits mode rd i) 3 _ (not_so _ (λ h. none (kind_test_in mode rd i h)))
  refused_out (RecordRefused.range k none) =
      tests_are ∙ demand_true (kind_fits mode rd i) 3 _ (kind_test_out mode rd i k)
      ∙ demand_false (ranges_fit rd i) 4 _ (not_so _ (λ h. none (ranges_test_in mode rd i k h)))
  refused_out (RecordRefused.reference g none) =
      up_to_ranges g ∙ demand_false (references_fit rd i) 5 _ (not_so _ (λ h. none (references_test_in mode rd i g h)))
  refused_out (RecordRefused.chain_length y none) =
      up_to_references y ∙ demand_false (chains_fit rd i) 6 _ (not_so _ (λ h. none (chains_test_in mode rd i h)))
  refused_out (RecordRefused.weight y c none) =
      up_to_references y ∙ demand_true (chains_fit rd i) 6 _ (chains_test_out mode rd i c)
      ∙ demand_false (weight_fits mode rd i) 7 _ (not_so _ (λ h. none (weight_test_in mode rd i h)))
  refused_out (RecordRefused.name y c l none) =
      up_to_references y ∙ demand_true (chains_fit rd i) 6 _ (chains_test_out mode rd i c)
      ∙ demand_true (weight_fits mode rd i) 7 _ (weight_test_out mode rd i l)
      ∙ demand_false (name_spelled rd i) 8 _ (not_so _ (λ h. none (name_test_in mode rd i y h)))
  refused_out (RecordRefused.name_taken y c l n none) =
      up_to_references y ∙ demand_true (chains_fit rd i) 6 _ (chains_test_out mode rd i c)
      ∙ demand_true (weight_fits mode rd i) 7 _ (weight_test_out mode rd i l) ∙ demand_true (name_spelled rd i) 8 _ (name_test_out mode rd i n)
      ∙ demand_false (name_is_free rd i) 9 _ (not_so _ (λ h. none (own_test_in mode rd i y h)))
  refused_out (RecordRefused.typing y c l n o none) =
      up_to_references y ∙ demand_true (chains_fit rd i) 6 _ (chains_test_out mode rd i c)
      ∙ demand_true (weight_fits mode rd i) 7 _ (weight_test_out mode rd i l) ∙ demand_true (name_spelled rd i) 8 _ (name_test_out mode rd i n)
      ∙ demand_true (name_is_free rd i) 9 _ (own_test_out mode rd i o)
      ∙ demand_false (typing_fits mode rd i) 10 0 (not_so _ (λ h. none (typing_test_in mode rd i y h)))

  -- a refusal's number is not 0
  pub refused_given : {r : ℕ} → RecordRefused mode rd i r → 1 ≤ r
  refused_given (RecordRefused.kind none) = omega arith
  refused_given (RecordRefused.range k none) = omega arith
  refused_given (RecordRefused.reference g none) = omega arith
  refused_given (RecordRefused.chain_length y none) = omega arith
  refused_given (RecordRefused.weight y c none) = omega arith
  refused_given (RecordRefused.name y c l none) = omega arith
  refused_given (RecordRefused.name_taken y c l n none) = omega arith
  refused_given (RecordRefused.typing y c l n o none) = omega arith
