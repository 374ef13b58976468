-- References are tested in two rounds: the words one by one, and then the items of chains, which functions and applications alone have.
use Rattle.std.specs.Prelude.{ℕ, zero, suc, ◌+◌, ◌<◌, ◌≡◌, List, [], ◌∷◌, Bool, false, not, ltb, get_or}
use Rattle.std.proofs.Math.Path.{refl}
use Rattle.std.proofs.Common.{sym, ◌∙◌, arith}
use Rattle.std.proofs.Math.Bool.{true}
use Rattle.std.proofs.lemmas.Bool.{false≢true}
use Rattle.std.proofs.Math.Dec.{eqb}
use borrow.Author.Tests.{eqb-true, ltb-true, ne_eqb, not-true, not-false}
use Rattle.reader.specs.Words.{Reader}
use Rattle.reader.specs.Tests.{both, either, every, if_eq, if_lt}
use Rattle.reader.specs.Kinds.{Layout, records, no_layout, rule_node, layout, role, role_at}
use Rattle.reader.specs.Chains.{items}
use Rattle.reader.specs.TreeLaws.{items_zero}
use Rattle.reader.specs.Records.{may_be_zero, wanted_class, item_class, has_class, items_have_class, refers, refers_at, references_fit}
use Rattle.reader_references.specs.References.{points_well, points_in, points_at, points_fit, items_at, items_fit}

both_true : (a : Bool) → both a true ≡ a
unfolding both
both_true true = refl
both_true false = refl

both_same : (a b c : Bool) → both a (both b c) ≡ both (both a b) c
unfolding both
both_same true b c = refl
both_same false b c = refl

-- no chain has items of a class that is asked for where none is asked for, and record 0 has no items
items_none : (rd : Reader) (c a : ℕ) → c ≡ 0 → items_have_class rd c a ≡ true
unfolding items_have_class if_eq
items_none rd c a e = rw e

no_items_lem : (rd : Reader) (c : ℕ) → items_have_class rd c 0 ≡ true
unfolding items_have_class if_eq every
no_items_lem rd c = rw (items_zero rd) (go (eqb c 0))
  where
    go : (b : Bool) → elim b as (λ x. Bool) [ true ↦ true | false ↦ true ] ≡ true
    go true = refl
    go false = refl

-- roles 0 to 5 ask for none
class_none : (r : ℕ) → r < 6 → item_class r ≡ 0
unfolding item_class
class_none zero h = refl
class_none (suc zero) h = refl
class_none (suc (suc zero)) h = refl
class_none (suc (suc (suc zero))) h = refl
class_none (suc (suc (suc (suc zero)))) h = refl
class_none (suc (suc (suc (suc (suc zero))))) h = refl
class_none (suc (suc (suc (suc (suc (suc r)))))) h = absurd (omega arith)

-- one word: the reference, and the items
refers_both : (rd : Reader) (i r a : ℕ) → refers rd i r a ≡ both (points_in rd i r a) (items_have_class rd (item_class r) a)
unfolding refers points_in points_well if_lt if_eq
refers_both rd i r a = number (ltb r 6) refl
  where
    some : (b : Bool) → eqb a 0 ≡ b → ltb r 6 ≡ false → refers rd i r a ≡ both (points_in rd i r a) (items_have_class rd (item_class r) a)
    some true e h = simp (refers, points_in, points_well, if_lt, if_eq, h, e) (rw (eqb-true a 0 e, no_items_lem rd (item_class r)) (sym (both_true (may_be_zero r))))
    some false e h = simp (refers, points_in, points_well, if_lt, if_eq, h, e) (both_same (ltb a i) (has_class rd (wanted_class r) a) (items_have_class rd (item_class r) a))

    number : (b : Bool) → ltb r 6 ≡ b → refers rd i r a ≡ both (points_in rd i r a) (items_have_class rd (item_class r) a)
    number true h = rw (items_none rd (item_class r) a (class_none r (ltb-true r 6 h))) (simp (refers, points_in, if_lt, h) (sym (both_true true)))
    number false h = some (eqb a 0) refl h

-- three words, in two rounds
rounds : (p q s x y z : Bool) → both (both p x) (both (both q y) (both s z)) ≡ both (both p (both q s)) (both x (both y z))
unfolding both
rounds false q s x y z = refl
rounds true false s true y z = refl
rounds true false s false y z = refl
rounds true true false true true z = refl
rounds true true false true false z = refl
rounds true true false false y z = refl
rounds true true true true true z = refl
rounds true true true true false z = refl
rounds true true true false y z = refl

fit_both : (rd : Reader) (i : ℕ) → references_fit rd i ≡ both (points_fit rd i) (items_fit rd i)
unfolding references_fit refers_at points_fit points_at items_fit items_at
fit_both rd i =
    rw (refers_both rd i (role_at rd i 1) (rd i 1), refers_both rd i (role_at rd i 2) (rd i 2), refers_both rd i (role_at rd i 3) (rd i 3)) (rounds _ _ _ _ _ _)

-- The ways out of `references_fit`.
module _ (rd : Reader) (i : ℕ) (t : Bool) (et : t ≡ points_fit rd i) where
  pub fit_stop : not t ≡ true → false ≡ references_fit rd i
  unfolding both
  fit_stop h = rw (fit_both rd i, ← et) (simp (both, not-true t h))

  pub fit_go : not t ≡ false → (u : Bool) → u ≡ items_fit rd i → u ≡ references_fit rd i
  unfolding both
  fit_go h u e = rw (fit_both rd i, ← et) (simp (both, not-false t h) e)

-- a kind of which no word asks for items
no_items : Layout → Bool
no_items l = both (eqb (item_class l.first) 0) (both (eqb (item_class l.second) 0) (eqb (item_class l.third) 0))

-- all kinds of a table that starts with kind n, but functions and applications
all_itemless : ℕ → List Layout → Bool
all_itemless n [] = true
all_itemless n (l ∷ ls) = elim (either (eqb n 8) (either (eqb n 13) (no_items l))) [ true ↦ all_itemless (suc n) ls | false ↦ false ]

all_cons : (n : ℕ) (l : Layout) (ls : List Layout) →
    all_itemless n (l ∷ ls) ≡ elim (either (eqb n 8) (either (eqb n 13) (no_items l))) [ true ↦ all_itemless (suc n) ls | false ↦ false ]
unfolding all_itemless
all_cons n l ls = refl

row_itemless : (ls : List Layout) (n k : ℕ) → all_itemless n ls ≡ true → (n + k ≡ 8 → ⊥) → (n + k ≡ 13 → ⊥) → no_items (get_or ls k no_layout) ≡ true
unfolding no_items both either item_class
row_itemless [] n k h p q = refl
row_itemless (l ∷ ls) n zero h p q = go (either (eqb n 8) (either (eqb n 13) (no_items l))) refl
  where
    go : (b : Bool) → either (eqb n 8) (either (eqb n 13) (no_items l)) ≡ b → no_items l ≡ true
    go true e = simp (either, ne_eqb n 8 (λ z. p (omega arith)), ne_eqb n 13 (λ z. q (omega arith))) at e
    go false e = absurd (false≢true (simp e at (rw all_cons at h)))
row_itemless (l ∷ ls) n (suc k) h p q =
    go (either (eqb n 8) (either (eqb n 13) (no_items l))) refl (λ others. row_itemless ls (suc n) k others (λ z. p (omega arith)) (λ z. q (omega arith)))
  where
    go : (b : Bool) → either (eqb n 8) (either (eqb n 13) (no_items l)) ≡ b → (all_itemless (suc n) ls ≡ true → no_items (get_or ls k no_layout) ≡ true) →
        no_items (get_or ls k no_layout) ≡ true
    go true e rest = rest (simp e at (rw all_cons at h))
    go false e rest = absurd (false≢true (simp e at (rw all_cons at h)))

layout_itemless : (k : ℕ) → (k ≡ 8 → ⊥) → (k ≡ 13 → ⊥) → no_items (layout k) ≡ true
unfolding if_lt all_itemless no_items both either item_class
layout_itemless k p q = go (ltb k 32)
  where
    go : (b : Bool) → no_items (elim b as (λ x. Layout) [ true ↦ get_or records k no_layout | false ↦ rule_node ]) ≡ true
    go true = row_itemless records 0 k refl (λ z. p (omega arith)) (λ z. q (omega arith))
    go false = refl

both_in : (a b : Bool) → both a b ≡ true → (a ≡ true) × (b ≡ true)
unfolding both
both_in true b h = (refl, h)
both_in false b h = absurd (false≢true h)

-- The ways out of `items_fit`.
module _ (rd : Reader) (i k : ℕ) (ek : k ≡ rd i 0) where
  -- what is asked of a function's items, and of an application's
  function_items : k ≡ 8 → items_fit rd i ≡ every (has_class rd 3) (items rd (rd i 1))
  unfolding items_fit items_at items_have_class item_class role_at role if_eq if_lt both
  function_items h = rw (← ek, h) (both_true (every (has_class rd 3) (items rd (rd i 1))))

  application_items : k ≡ 13 → items_fit rd i ≡ both (every (has_class rd 3) (items rd (rd i 2))) (every (has_class rd 4) (items rd (rd i 3)))
  unfolding items_fit items_at items_have_class item_class role_at role if_eq if_lt both
  application_items h = rw (← ek, h) refl

  pub items_function : k ≡ 8 → (a : ℕ) → a ≡ rd i 1 → (t : Bool) → t ≡ every (has_class rd 3) (items rd a) → t ≡ items_fit rd i
  items_function h a ea t e = rw (function_items h, ← ea) e

  pub items_other : (k ≡ 8 → ⊥) → (k ≡ 13 → ⊥) → true ≡ items_fit rd i
  unfolding items_fit items_at role_at role no_items if_eq both
  items_other p q =
      let all = layout_itemless (rd i 0) (λ z. p (ek ∙ z)) (λ z. q (ek ∙ z)) in
      let first = both_in _ _ all in
      let rest = both_in _ _ first.1 in
      let none : (c a : ℕ) → eqb c 0 ≡ true → items_have_class rd c a ≡ true = λ c a h. items_none rd c a (eqb-true c 0 h) in
      rw (none (item_class (layout (rd i 0)).first) (rd i 1) first.0, none (item_class (layout (rd i 0)).second) (rd i 2) rest.0, none (item_class (layout (rd i 0)).third) (rd i 3) rest.1) refl

  module _ (h : k ≡ 13) (a : ℕ) (ea : a ≡ rd i 2) (t : Bool) (et : t ≡ every (has_class rd 3) (items rd a)) where
    pub items_types : not t ≡ true → false ≡ items_fit rd i
    unfolding both
    items_types n = rw (application_items h, ← ea, ← et) (simp (both, not-true t n))

    pub items_both : not t ≡ false → (b : ℕ) → b ≡ rd i 3 → (u : Bool) → u ≡ every (has_class rd 4) (items rd b) → u ≡ items_fit rd i
    unfolding both
    items_both n b eb u e = rw (application_items h, ← ea, ← et) (simp (both, not-false t n, ← eb) e)
