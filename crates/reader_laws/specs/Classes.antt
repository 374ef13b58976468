-- The kinds of each class.
use Rattle.std.specs.Prelude.{ℕ, zero, suc, ◌<◌, ◌≤◌, ◌≡◌, refl, ◌⊎◌, Bool, true, false, eqb, ltb}
use Rattle.std.proofs.Common.{sym, ap, ◌∙◌, inl, inr, arith, eqb-true, ltb-true, ltb-false}
use Rattle.std.proofs.lemmas.Bool.{eqb-false}
use Rattle.reader.specs.Words.{Reader}
use Rattle.reader.specs.KindLaws.{class_none}
use Rattle.reader.specs.Tests.{both, either, if_eq, if_lt, between}
use Rattle.reader.specs.Kinds.{class, class_at}
use Rattle.reader_laws.specs.Scan.{both_parts, either_parts, when_equal, between_parts}

-- the test holds of all numbers below n
unfoldable pub all_below : (ℕ → Bool) → ℕ → Bool
all_below test zero = true
all_below test (suc n) = both (test n) (all_below test n)

pub all_below_lem : (test : ℕ → Bool) (n : ℕ) → all_below test n ≡ true → (k : ℕ) → k < n → test k ≡ true
unfolding all_below
all_below_lem test zero h k p = absurd (omega arith)
all_below_lem test (suc n) h k p = go (eqb k n) refl (both_parts (test n) (all_below test n) h).0 (λ q. all_below_lem test n (both_parts (test n) (all_below test n) h).1 k q)
  where
    go : (b : Bool) → eqb k n ≡ b → test n ≡ true → (k < n → test k ≡ true) → test k ≡ true
    go true e t rest = let same : k ≡ n = eqb-true k n e in rw same t
    go false e t rest = let differ : k ≡ n → ⊥ = eqb-false k n e in rest (omega arith)

-- kinds past 23 have no class
pub class_past : (k : ℕ) → 24 ≤ k → class k ≡ 0
class_past k h = sym (class_none k h)

-- a kind passes the test if it is of class c
of_class : ℕ → (ℕ → Bool) → ℕ → Bool
of_class c test k = if_eq (class k) c (test k) true

-- a kind of class c passes a test that those of the table pass
class_passes : (c : ℕ) (test : ℕ → Bool) → all_below (of_class c test) 24 ≡ true → (c ≡ 0 → ⊥) → (k : ℕ) → class k ≡ c → test k ≡ true
unfolding of_class
class_passes c test all differ k e = go (ltb k 24) refl
  where
    go : (b : Bool) → ltb k 24 ≡ b → test k ≡ true
    go true l = sym (when_equal (test k) true (class k) c e) ∙ all_below_lem (of_class c test) 24 all k (ltb-true k 24 l)
    go false l = let none : class k ≡ 0 = class_past k (ltb-false k 24 l) in absurd (differ (sym e ∙ none))

-- and lies from `low` to `high`
class_between : (c low high : ℕ) → all_below (of_class c (between low high)) 24 ≡ true → (c ≡ 0 → ⊥) → (k : ℕ) → class k ≡ c → (low ≤ k) × (k ≤ high)
class_between c low high all differ k e = between_parts low high k (class_passes c (between low high) all differ k e)

pub link_class : (k : ℕ) → class k ≡ 1 → k ≡ 1
unfolding all_below of_class class if_eq if_lt between both
link_class k e = let r = class_between 1 1 1 refl (λ z. omega arith) k e in omega arith

pub name_class : (k : ℕ) → class k ≡ 2 → k ≡ 2
unfolding all_below of_class class if_eq if_lt between both
name_class k e = let r = class_between 2 2 2 refl (λ z. omega arith) k e in omega arith

pub type_class : (k : ℕ) → class k ≡ 3 → (3 ≤ k) × (k ≤ 6)
unfolding all_below of_class class if_eq if_lt between both
type_class k e = class_between 3 3 6 refl (λ z. omega arith) k e

-- the kinds of terms: 7 to 13 but for 8, and 23
is_term_kind : ℕ → Bool
is_term_kind k = either (between 7 13 k) (eqb k 23)

pub term_class : (k : ℕ) → class k ≡ 4 → ((7 ≤ k) × (k ≤ 13) × (k ≡ 8 → ⊥)) ⊎ (k ≡ 23)
unfolding all_below of_class is_term_kind class if_eq if_lt between both either
term_class k e =
    let not8 : k ≡ 8 → ⊥ = λ q. let six : 6 ≡ class k = ap class (sym q) in omega arith in
    either_parts (between 7 13 k) (eqb k 23) (class_passes 4 is_term_kind refl (λ z. omega arith) k e)
    (λ l. let r = between_parts 7 13 k l in inl (r.0, r.1, not8)) (λ l. inr (eqb-true k 23 l))

pub formula_class : (k : ℕ) → class k ≡ 5 → (14 ≤ k) × (k ≤ 21)
unfolding all_below of_class class if_eq if_lt between both
formula_class k e = class_between 5 14 21 refl (λ z. omega arith) k e

pub function_class : (k : ℕ) → class k ≡ 6 → k ≡ 8
unfolding all_below of_class class if_eq if_lt between both
function_class k e = let r = class_between 6 8 8 refl (λ z. omega arith) k e in omega arith

pub for_all_types_class : (k : ℕ) → class k ≡ 7 → k ≡ 22
unfolding all_below of_class class if_eq if_lt between both
for_all_types_class k e = let r = class_between 7 22 22 refl (λ z. omega arith) k e in omega arith

-- the class of a record is that of its kind
pub class_of_kind : (rd : Reader) (i : ℕ) → class_at rd i ≡ class (rd i 0)
unfolding class_at
class_of_kind rd i = refl
