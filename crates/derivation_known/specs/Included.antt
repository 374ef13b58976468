-- A record that is put into a closed set when its parts are in it, and the ways out of the code that does so.
use Rattle.std.specs.Prelude.{ℕ, zero, suc, ◌<◌, ◌≤◌, ◌≡◌, refl, List, Bool, true, false, not, eqb}
use Rattle.std.proofs.Common.{sym, ◌∙◌, arith, eqb-true}
use Rattle.std.proofs.lemmas.Bool.{false≢true, eqb-false, not-false}
use Rattle.reader.specs.Words.{Reader}
use Rattle.reader.specs.declared.Record.{Record}
use Rattle.reader.specs.Fetched.{RecordIs}
use Rattle.reader_equality.specs.declared.Parts.{Parts}
use Rattle.reader_equality.specs.Keys.{part_at, part_in_lem}
use Rattle.reader_equality.specs.Shapes.{PartsAre}
use Rattle.derivation_known.specs.Held.{held, Puts, part_most}
use Rattle.derivation_known.specs.Known.{Known, facts_rows}

-- the facts hold as before, no record is taken out, and r says that record j is in
pub record Includes (rd : Reader) (before after : List ℕ) (j : ℕ) (r : Bool) : Type 0 where
  pub known : Known rd after
  pub kept : (i : ℕ) → held before i ≡ true → held after i ≡ true
  pub there : r ≡ true → held after j ≡ true

-- The ways out of `include`: the record is in, or it is not tried.
pub includes_there : (rd : Reader) (known : List ℕ) (j : ℕ) (t : Bool) → Known rd known → t ≡ held known j → t ≡ true → Includes rd known known j true
includes_there rd known j t k et h = record { known = k; kept = λ i e. e; there = λ e. sym et ∙ h }

pub includes_no : (rd : Reader) (before after : List ℕ) (j : ℕ) → Known rd after → ((i : ℕ) → held before i ≡ true → held after i ≡ true) → Includes rd before after j false
includes_no rd before after j k kept = record { known = k; kept = kept; there = λ e. absurd (false≢true e) }

-- a record is put in, whose parts are in
known_put : (rd : Reader) (before after : List ℕ) (j : ℕ) → Known rd before → Puts before after j →
    ((w : ℕ) → 0 < w → w < 4 → held after j ≡ true → held after (part_at rd false j w) ≡ true) → Known rd after
known_put rd before after j k put parts = record {
  facts = facts_rows rd before after put.rows k.facts;
  closed = record { parts = λ i low small holds w p q. go i low small holds w p q (eqb i j) refl };
}
  where
    go : (i : ℕ) → 0 ≤ i → i < 262144 → held after i ≡ true → (w : ℕ) → 0 < w → w < 4 → (s : Bool) → eqb i j ≡ s → held after (part_at rd false i w) ≡ true
    go i low small holds w p q true e = let here = eqb-true i j e in rw here (parts w p q (rw here at holds))
    go i low small holds w p q false e = put.kept _ (k.closed.parts i low small (put.only i (eqb-false i j e) holds) w p q)

-- record 0, which has no parts
pub includes_none : (rd : Reader) (before after : List ℕ) (j : ℕ) (r : Bool) → Known rd before → j ≡ 0 → Puts before after j → r ≡ held after j → Includes rd before after j r
includes_none rd before after j r k none put er = record { known = known_put rd before after j k put own; kept = put.kept; there = λ e. sym er ∙ e }
  where
    own : (w : ℕ) → 0 < w → w < 4 → held after j ≡ true → held after (part_at rd false j w) ≡ true
    own w p q h = let zero_part : part_at rd false j w ≡ j = omega (arith, part_most rd j w) in rw zero_part h

module _ (rd : Reader) (before one two three after : List ℕ) (j : ℕ) (x : Record) (is : RecordIs rd j x) (ps : Parts) (are : PartsAre false j x ps)
    (a : Bool) (first : Includes rd before one ps.first a) (ha : not a ≡ false) (b : Bool) (second : Includes rd one two ps.second b) (hb : not b ≡ false)
    (c : Bool) (third : Includes rd two three ps.third c) (hc : not c ≡ false) (put : Puts three after j) (r : Bool) (er : r ≡ held after j) where
  all_parts : (w : ℕ) → 0 < w → w < 4 → held after j ≡ true → held after (part_at rd false j w) ≡ true
  all_parts zero p q h = absurd (omega arith)
  all_parts (suc zero) p q h =
      rw (← (are.first_is ∙ part_in_lem rd j x is false 1 (omega arith))) (put.kept _ (third.kept _ (second.kept _ (first.there (not-false a ha)))))
  all_parts (suc (suc zero)) p q h =
      rw (← (are.second_is ∙ part_in_lem rd j x is false 2 (omega arith))) (put.kept _ (third.kept _ (second.there (not-false b hb))))
  all_parts (suc (suc (suc zero))) p q h =
      rw (← (are.third_is ∙ part_in_lem rd j x is false 3 (omega arith))) (put.kept _ (third.there (not-false c hc)))
  all_parts (suc (suc (suc (suc w)))) p q h = absurd (omega arith)

  pub includes_all : Includes rd before after j r
  includes_all = record {
    known = known_put rd three after j third.known put all_parts;
    kept = λ i h. put.kept i (third.kept i (second.kept i (first.kept i h)));
    there = λ e. sym er ∙ e;
  }
