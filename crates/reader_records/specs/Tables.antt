-- What the tables of names and weights hold once records were read, up to the first with a refusal.
use Rattle.std.specs.Prelude.{ℕ, ◌+◌, ◌-◌, ◌<◌, ◌≤◌, ◌≡◌, List, Bool, length, get_or, set}
use Rattle.std.proofs.Math.Path.{refl}
use Rattle.std.proofs.Common.{◌∙◌, get_or-set_other, arith}
use Rattle.std.proofs.Math.Bool.{true, false}
use Rattle.std.proofs.Math.Dec.{eqb}
use borrow.Author.Tests.{ne_eqb, lt-ltb, le-ltb, eqb-false}
use Rattle.reader.specs.declared.Answer.{Answer}
use Rattle.reader.specs.Words.{Reader}
use Rattle.reader.specs.Tests.{demand, or_else, if_eq, if_lt}
use Rattle.reader.specs.Trees.{tree}
use Rattle.reader.specs.Weight.{weight}
use Rattle.reader.specs.Answers.{answer, accepted}
use Rattle.reader.specs.Records.{kind_fits, ranges_fit, references_fit, chains_fit, weight_fits, name_spelled, name_is_free, typing_fits, words_fault, content_fault, record_fault}
use Rattle.reader_names.specs.Taken.{Names}
use Rattle.reader_weights.specs.Weights.{capped, Filled, filled_more}

-- v where the answer is a refusal of a record, 3 to 10; else e
unfoldable pub at_record : Answer → ℕ → ℕ → ℕ
at_record r v e = if_eq r.refusal 0 e (if_lt r.refusal 11 v e)

-- records `first` to `last` were read, and r is the answer: the record at which that ended, the one with a refusal or the one after the last
unfoldable pub end_of : Answer → ℕ → ℕ → ℕ
end_of r first last = at_record r r.at (first + (last + 1 - first))

-- record i was read with refusal w: the names of the records below this one are in the slots; for its name and its typing the name of i was looked up
unfoldable pub looked_up : ℕ → ℕ → ℕ
looked_up w i = if_eq w 0 (i + 1) (if_lt w 9 i (i + 1))

-- the same for the answer r to records `first` to `last`
unfoldable pub names_to : Answer → ℕ → ℕ → ℕ
names_to r first last = at_record r (looked_up r.refusal r.at) (first + (last + 1 - first))

-- the table has the weights of the records below i, and is as it was from i on
pub record Weighed (rd : Reader) (before after : List ℕ) (i : ℕ) : Type 0 where
  pub filled : Filled rd after i
  pub kept : (j : ℕ) → i ≤ j → get_or after j 0 ≡ get_or before j 0

pub weighed_none : (rd : Reader) (table : List ℕ) (i : ℕ) → Filled rd table i → Weighed rd table table i
weighed_none rd table i fill = record { filled = fill; kept = λ j h. refl }

pub weighed_more : (rd : Reader) (before table : List ℕ) (i w : ℕ) → i < length table → Weighed rd before table i → w ≡ capped (weight (tree rd i)) →
    Weighed rd before (set table i w) (i + 1)
weighed_more rd before table i w p o e = record {
  filled = filled_more rd table i w p o.filled e;
  kept = λ j h. get_or-set_other table i j w 0 (omega arith) ∙ o.kept j (omega arith);
}

pub weighed_end : (rd : Reader) (before after : List ℕ) (i last : ℕ) → i ≤ last + 1 → last < i → Weighed rd before after i → Weighed rd before after (last + 1)
weighed_end rd before after i last h g o = let e : last + 1 ≡ i = omega arith in rw e o

-- records below `first`, and then the others
pub weighed_then : (rd : Reader) (before table after : List ℕ) (first i : ℕ) → first ≤ i → Weighed rd before table first → Weighed rd table after i → Weighed rd before after i
weighed_then rd before table after first i h a o = record { filled = o.filled; kept = λ j p. o.kept j p ∙ a.kept j (omega arith) }

-- the refusals of a record
module _ (most : ℕ) where
  demand_small : (a : Bool) (n rest : ℕ) → n < most → rest < most → demand a n rest < most
  unfolding demand
  demand_small true n rest p q = q
  demand_small false n rest p q = p

  words_below : (mode : ℕ) (rd : Reader) (i : ℕ) → 6 < most → words_fault mode rd i < most
  unfolding words_fault
  words_below mode rd i h =
      demand_small (kind_fits mode rd i) 3 _ (omega arith) (demand_small (ranges_fit rd i) 4 _ (omega arith)
      (demand_small (references_fit rd i) 5 _ (omega arith) (demand_small (chains_fit rd i) 6 0 h (omega arith))))

pub words_small : (mode : ℕ) (rd : Reader) (i w : ℕ) → w ≡ words_fault mode rd i → w < 9
words_small mode rd i w e = rw e (words_below 9 mode rd i (omega arith))

else_small : (a b : ℕ) → a < 11 → b < 11 → or_else a b < 11
unfolding or_else
else_small a b p q = go (eqb a 0)
  where
    go : (t : Bool) → elim t as (λ x. ℕ) [ true ↦ b | false ↦ a ] < 11
    go true = q
    go false = p

record_small : (mode : ℕ) (rd : Reader) (i : ℕ) → record_fault mode rd i < 11
unfolding record_fault content_fault
record_small mode rd i =
    else_small (words_fault mode rd i) _ (words_below 11 mode rd i (omega arith))
    (demand_small 11 (weight_fits mode rd i) 7 _ (omega arith) (demand_small 11 (name_spelled rd i) 8 _ (omega arith)
    (demand_small 11 (name_is_free rd i) 9 _ (omega arith) (demand_small 11 (typing_fits mode rd i) 10 0 (omega arith) (omega arith)))))

-- which of the two it is
module _ (r : Answer) (v e : ℕ) where
  pub record_here : (r.refusal ≡ 0 → ⊥) → r.refusal < 11 → at_record r v e ≡ v
  unfolding at_record if_eq if_lt
  record_here h p = simp (at_record, if_eq, if_lt, ne_eqb r.refusal 0 h, lt-ltb r.refusal 11 p)

  pub record_past : ((r.refusal ≡ 0 → ⊥) → 11 ≤ r.refusal) → at_record r v e ≡ e
  unfolding at_record if_eq if_lt
  record_past h = go (eqb r.refusal 0) refl
    where
      go : (b : Bool) → eqb r.refusal 0 ≡ b → at_record r v e ≡ e
      go true t = simp (at_record, if_eq, t)
      go false t = simp (at_record, if_eq, if_lt, t, le-ltb r.refusal 11 (h (eqb-false r.refusal 0 t)))

-- the names in the slots after a record with a refusal
module _ (i : ℕ) where
  pub looked_none : i + 1 ≡ looked_up 0 i
  unfolding looked_up if_eq
  looked_none = refl

  pub looked_before : (w : ℕ) → (w ≡ 0 → ⊥) → w < 9 → i ≡ looked_up w i
  unfolding looked_up if_eq if_lt
  looked_before w h p = simp (looked_up, if_eq, if_lt, ne_eqb w 0 h, lt-ltb w 9 p)

  pub looked_after : (w : ℕ) → 9 ≤ w → i + 1 ≡ looked_up w i
  unfolding looked_up if_eq if_lt
  looked_after w p = simp (looked_up, if_eq, if_lt, ne_eqb w 0 (omega arith), le-ltb w 9 p)

pub looked_names : (rd : Reader) (slots : List ℕ) (w i j : ℕ) → j ≡ looked_up w i → Names rd slots j → Names rd slots (looked_up w i)
looked_names rd slots w i j e names = rw (← e) names

pub looked_next : (rd : Reader) (slots : List ℕ) (w i : ℕ) → w ≡ 0 → Names rd slots (looked_up w i) → Names rd slots (i + 1)
looked_next rd slots w i z names = rw (looked_none i, ← z) names

-- The ways out of `first_fault`: at record i, and after the last.
module _ (rd : Reader) (first last i : ℕ) where
  module _ (mode w file : ℕ) (ew : w ≡ record_fault mode rd i) (h : w ≡ 0 → ⊥) where
    small : w < 11
    small = rw ew (record_small mode rd i)

    pub names_stop : (slots : List ℕ) → Names rd slots (looked_up w i) → Names rd slots (names_to (answer w file i 0) first last)
    unfolding names_to
    names_stop slots names = rw (record_here (answer w file i 0) (looked_up w i) (first + (last + 1 - first)) h small) names

    pub weights_stop : (before table : List ℕ) → Weighed rd before table i → Weighed rd before table (end_of (answer w file i 0) first last)
    unfolding end_of
    weights_stop before table o = rw (record_here (answer w file i 0) i (first + (last + 1 - first)) h small) o

  module _ (low : first ≤ i) (high : i ≤ first + (last + 1 - first)) (past : last < i) where
    last_one : first + (last + 1 - first) ≡ i
    last_one = omega arith

    pub names_last : (slots : List ℕ) → Names rd slots i → Names rd slots (names_to (accepted 0) first last)
    unfolding names_to
    names_last slots names = rw (record_past (accepted 0) (looked_up 0 0) (first + (last + 1 - first)) (λ z. absurd (z refl)), last_one) names

    pub weights_last : (before table : List ℕ) → Weighed rd before table i → Weighed rd before table (end_of (accepted 0) first last)
    unfolding end_of
    weights_last before table o = rw (record_past (accepted 0) 0 (first + (last + 1 - first)) (λ z. absurd (z refl)), last_one) o
