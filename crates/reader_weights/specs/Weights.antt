-- The table of weights, and the ways out of the code that fills it.
use Rattle.std.specs.Prelude.{ℕ, zero, suc, ◌+◌, ◌-◌, ◌<◌, ◌≤◌, min, ◌≡◌, List, Bool, eqb, ltb, length, get_or, set}
use Rattle.std.proofs.Math.Path.{refl, sym}
use Rattle.std.proofs.Common.{◌∙◌, ⊎_elim, get_or-set_same, get_or-set_other, arith, eq-or-lt_of_le}
use Rattle.std.proofs.Math.Bool.{true, false, not}
use Rattle.std.proofs.Math.Dec.{leb}
use borrow.Author.Tests.{ne_eqb, ltb-true, le-leb, lt-leb}
use Rattle.reader.specs.Words.{Reader}
use Rattle.reader.specs.Tests.{if_eq, if_lt, if_true}
use Rattle.reader.specs.Kinds.{typeᶜ, termᶜ, formulaᶜ, for_all_typesᶜ, itemʳ, layout, class_at, role_at}
use Rattle.reader.specs.KindLaws.{unpacked}
use Rattle.reader.specs.Trees.{lower, child, tree}
use Rattle.reader.specs.Weight.{is_weighed, own_weight, weight}
use Rattle.reader.specs.Records.{most_weight, weight_fits}
use Rattle.reader.specs.Answers.{answer, first_fault}
use Rattle.reader.specs.AnswerLaws.{scan_stop}
use Rattle.reader.specs.TreeLaws.{tree_zero, tree_step_lem}
use Rattle.reader.specs.declared.Record.{Record}
use Rattle.reader.specs.Fetched.{RecordIs}
use Rattle.reader_references.specs.Rows.{class_is, role_first, role_second, role_third}

-- a weight as the table holds it
unfoldable pub capped : ℕ → ℕ
capped w = min w 65535

-- the table holds the weights of the records below i
pub record Filled (rd : Reader) (table : List ℕ) (i : ℕ) : Type 0 where
  pub holds : (j : ℕ) → j < i → get_or table j 0 ≡ capped (weight (tree rd j))

-- the part that word a of record i names in role r, 0 for none
unfoldable pub part_by : ℕ → ℕ → ℕ → ℕ
part_by r i a = if_lt r itemʳ 0 (if_lt a i a 0)

part_by_low : (r i a : ℕ) → 0 < i → part_by r i a < i
unfolding part_by if_lt
part_by_low r i a p = go (ltb r 10) (ltb a i) refl
  where
    go : (b d : Bool) → ltb a i ≡ d → elim b as (λ x. ℕ) [ true ↦ 0 | false ↦ elim d as (λ x. ℕ) [ true ↦ a | false ↦ 0 ] ] < i
    go true d e = p
    go false true e = ltb-true a i e
    go false false e = p

pub part_low : (r i a x : ℕ) → x ≡ part_by r i a → 0 < i → x < i
part_low r i a x e p = rw e (part_by_low r i a p)

-- a part is an entry of the table, and that holds its weight
pub part_weighs : (rd : Reader) (table : List ℕ) (r i a x v : ℕ) → Filled rd table i → 0 < i → x ≡ part_by r i a → v ≡ get_or table x 0 →
    v ≡ capped (weight (tree rd (part_by r i a)))
part_weighs rd table r i a x v fill p e q = rw (← e) (q ∙ fill.holds x (part_low r i a x e p))

-- word w of record i, which is a, in its role r
part_child : (rd : Reader) (i w r a : ℕ) → r ≡ role_at rd i w → a ≡ rd i w → part_by r i a ≡ child rd i w
unfolding part_by child lower
part_child rd i w r a er ea = rw (← er, ← ea) refl

-- a class with a weight, and what its records weigh without their parts
unfoldable pub class_weighed : ℕ → Bool
class_weighed c = if_eq c typeᶜ true (if_eq c termᶜ true (if_eq c formulaᶜ true (if_eq c for_all_typesᶜ true false)))

unfoldable pub class_weight : ℕ → ℕ
class_weight c = if_true (class_weighed c) 1 0

class_weighed_lem : (rd : Reader) (i c : ℕ) → c ≡ class_at rd i → class_weighed c ≡ is_weighed (rd i 0)
unfolding class_weighed is_weighed class_at
class_weighed_lem rd i c e = rw e refl

class_weight_lem : (rd : Reader) (i c : ℕ) → c ≡ class_at rd i → class_weight c ≡ own_weight (rd i 0)
unfolding class_weight own_weight
class_weight_lem rd i c e = rw (class_weighed_lem rd i c e) refl

-- capped weights add up to the capped sum
capped_sum : (o x y z u v w r all : ℕ) → all ≡ o + x + y + z → u ≡ capped x → v ≡ capped y → w ≡ capped z → r ≡ min (o + u + v + w) 65535 → r ≡ capped all
unfolding capped
capped_sum o x y z u v w r all e eu ev ew er = omega arith

-- the weight of record i, whose words are x and whose kind has this row, from its parts'
module _ (rd : Reader) (i : ℕ) (p : 0 < i) (x : Record) (e : RecordIs rd i x) where
  pub weigh_constant : x.kind ≡ 7 → 1 ≡ capped (weight (tree rd i))
  unfolding weight capped
  weigh_constant h = rw (tree_step_lem rd i p, ← e.kind_is, h)

  weight_step : (x.kind ≡ 7 → ⊥) →
      weight (tree rd i) ≡ own_weight (rd i 0) + weight (tree rd (child rd i 1)) + weight (tree rd (child rd i 2)) + weight (tree rd (child rd i 3))
  unfolding weight
  weight_step h = rw (tree_step_lem rd i p) (simp (weight, ne_eqb (rd i 0) 7 (λ z. h (e.kind_is ∙ z))))

  -- the roles f, s, t and the class c of the row, and the weights o, u, v, w that the code has of them
  pub weigh_parts : (x.kind ≡ 7 → ⊥) → (row : ℕ) → unpacked row ≡ layout x.kind → (f s t c : ℕ) →
      f ≡ (unpacked row).first → s ≡ (unpacked row).second → t ≡ (unpacked row).third → c ≡ (unpacked row).class → (u v w o r : ℕ) →
      u ≡ capped (weight (tree rd (part_by f i x.a))) → v ≡ capped (weight (tree rd (part_by s i x.b))) → w ≡ capped (weight (tree rd (part_by t i x.c))) →
      o ≡ class_weight c → r ≡ min (o + u + v + w) 65535 → r ≡ capped (weight (tree rd i))
  weigh_parts h row er f s t c ef es et ec u v w o r eu ev ew eo q =
      let first = part_child rd i 1 f x.a (role_first rd i x e row f er ef) e.a_is in
      let second = part_child rd i 2 s x.b (role_second rd i x e row s er es) e.b_is in
      let third = part_child rd i 3 t x.c (role_third rd i x e row t er et) e.c_is in
      let own = eo ∙ class_weight_lem rd i c (class_is rd i x e row c er ec) in
      capped_sum o (weight (tree rd (child rd i 1))) (weight (tree rd (child rd i 2))) (weight (tree rd (child rd i 3))) u v w r (weight (tree rd i)) (rw own (weight_step h)) (rw (← first) eu) (rw (← second) ev) (rw (← third) ew) q

pub own_small : (c o : ℕ) → o ≡ class_weight c → o < 2
unfolding class_weight if_true
own_small c o e = rw e (go (class_weighed c))
  where
    go : (b : Bool) → elim b as (λ x. ℕ) [ true ↦ 1 | false ↦ 0 ] < 2
    go true = omega arith
    go false = omega arith

-- the limit is below what the table can hold
most_small : (mode : ℕ) → most_weight mode < 65535
unfolding most_weight if_eq
most_small mode = go (eqb mode 2)
  where
    go : (b : Bool) → elim b as (λ x. ℕ) [ true ↦ 16384 | false ↦ 4096 ] < 65535
    go true = omega arith
    go false = omega arith

-- The ways out of `weight_fits`.
module _ (rd : Reader) (mode i w l : ℕ) (ew : w ≡ capped (weight (tree rd i))) (el : l ≡ most_weight mode) where
  pub fits_light : w ≤ l → true ≡ weight_fits mode rd i
  unfolding weight_fits if_true capped
  fits_light h = go (is_weighed (rd i 0))
    where
      go : (b : Bool) → true ≡ elim b as (λ x. Bool) [ true ↦ leb (weight (tree rd i)) (most_weight mode) | false ↦ true ]
      go true = sym (le-leb (weight (tree rd i)) (most_weight mode) (omega (arith, most_small mode)))
      go false = refl

  pub fits_heavy : l < w → (c : ℕ) → c ≡ class_at rd i → (t : Bool) → t ≡ class_weighed c → not t ≡ weight_fits mode rd i
  unfolding weight_fits if_true capped
  fits_heavy h c ec t et = rw (et ∙ class_weighed_lem rd i c ec) (go (is_weighed (rd i 0)))
    where
      go : (b : Bool) → not b ≡ elim b as (λ x. Bool) [ true ↦ leb (weight (tree rd i)) (most_weight mode) | false ↦ true ]
      go true = sym (lt-leb (weight (tree rd i)) (most_weight mode) (omega arith))
      go false = refl

-- the table with one entry more
pub filled_one : (rd : Reader) (table : List ℕ) → get_or table 0 0 ≡ 0 → Filled rd table 1
unfolding weight capped
filled_one rd table z = record { holds = λ j h. go j h }
  where
    go : (j : ℕ) → j < 1 → get_or table j 0 ≡ capped (weight (tree rd j))
    go zero h = z ∙ sym (rw (tree_zero rd) refl)
    go (suc j) h = absurd (omega arith)

pub filled_more : (rd : Reader) (table : List ℕ) (i w : ℕ) → i < length table → Filled rd table i → w ≡ capped (weight (tree rd i)) →
    Filled rd (set table i w) (i + 1)
filled_more rd table i w p fill e = record { holds = λ j h. ⊎_elim (λ q. here j q) (λ q. below j q) (eq-or-lt_of_le (le_of_lt_add_one j h)) }
  where
    le_of_lt_add_one : (j : ℕ) → j < i + 1 → j ≤ i
    le_of_lt_add_one j h = omega arith

    here : (j : ℕ) → j ≡ i → get_or (set table i w) j 0 ≡ capped (weight (tree rd j))
    here j q = rw q (get_or-set_same table i w 0 p ∙ e)

    below : (j : ℕ) → j < i → get_or (set table i w) j 0 ≡ capped (weight (tree rd j))
    below j q = get_or-set_other table i j w 0 (omega arith) ∙ fill.holds j q

pub filled_end : (rd : Reader) (table : List ℕ) (i last : ℕ) → i ≤ last + 1 → last < i → Filled rd table i → Filled rd table (last + 1)
filled_end rd table i last h g fill = let e : last + 1 ≡ i = omega arith in rw e fill

-- an entry fits the table's numbers
pub capped_small : (w n : ℕ) → w ≡ capped n → w < 65536
unfolding capped
capped_small w n e = omega arith

-- the number of a file in an answer
unfoldable pub file_of : ℕ → ℕ
file_of mode = if_eq mode 0 1 2

-- the refusal found, in the file whose number the code holds
pub fault_stop : (mode file : ℕ) (fault : ℕ → ℕ) (first last i w : ℕ) → file ≡ file_of mode →
    first_fault fault (file_of mode) (last + 1 - first) first ≡ first_fault fault (file_of mode) (last + 1 - i) i → i ≤ last → w ≡ fault i → (w ≡ 0 → ⊥) →
    answer w file i 0 ≡ first_fault fault (file_of mode) (last + 1 - first) first
fault_stop mode file fault first last i w e inv h ew n = rw e (scan_stop fault (file_of mode) first last i inv h w ew n)
