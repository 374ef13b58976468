-- Parts of the definitions of references and chain lengths, and the ways out of the code for them.
use Rattle.std.specs.Prelude.{ℕ, zero, suc, ◌/◌, ◌%◌, ◌<◌, ◌≤◌, ◌≡◌, Bool, false, not, ltb, eqb, leb, length, get_or}
use Rattle.std.proofs.Math.Path.{refl, ap}
use Rattle.std.proofs.Common.{sym, ◌∙◌, arith}
use Rattle.std.proofs.Math.Bool.{true}
use Rattle.std.proofs.Math.ListN.{get_or-eq_default}
use borrow.Author.Tests.{eq-eqb, ne_eqb, le-ltb, lt-ltb, not-true, not-false}
use Rattle.reader.specs.Words.{Reader}
use Rattle.reader.specs.Tests.{both, between, every, if_eq, if_lt}
use Rattle.reader.specs.TestLaws.{eq_yes, eq_no, lt_yes, lt_no}
use Rattle.reader.specs.Trees.{lower}
use Rattle.reader.specs.Kinds.{class, class_at, role_at, is_kind}
use Rattle.reader.specs.Chains.{linked, items}
use Rattle.reader.specs.TreeLaws.{items_zero, items_step}
use Rattle.reader.specs.ChainLaws.{linked_length, linked_none}
use Rattle.reader.specs.Records.{in_range, range_at, Reference, any_record, references, may_be_zero, wanted_class, item_class, has_class, items_have_class}
use Rattle.reader.specs.declared.Record.{Record}
use Rattle.reader.specs.Fetched.{RecordIs}
use Rattle.reader.specs.Records.{kind_fits, types_fit, arguments_fit, item_chains_fit}

-- What a number packs, a hexadecimal digit each: whether the reference may be 0, and the class of the record.
unfoldable pub zero_in : ℕ → Bool
zero_in n = eqb (n / 16) 1

unfoldable pub class_in : ℕ → ℕ
class_in n = n % 16

-- a number packs what a reference in role r must name
pub record Packed (n r : ℕ) : Type 0 where
  pub zero : zero_in n ≡ may_be_zero r
  pub class : class_in n ≡ wanted_class r

-- by the arm of role k
pub packed_as : (n k r : ℕ) → zero_in n ≡ may_be_zero k → class_in n ≡ wanted_class k → r ≡ k → Packed n r
packed_as n k r z c e = record { zero = rw e z; class = rw e c }

-- by the last arm: roles 0 to 5 and past the table's end
pub packed_none : (r : ℕ) → (6 ≤ r → 18 ≤ r) → Packed 0 r
unfolding zero_in class_in may_be_zero wanted_class
packed_none r h =
    let e = reference_none r h in
    record { zero = ap (λ (x : Reference). x.zero) e; class = ap (λ (x : Reference). x.class) e }
  where
    reference_none : (r : ℕ) → (6 ≤ r → 18 ≤ r) → any_record ≡ get_or references r any_record
    reference_none zero h = refl
    reference_none (suc zero) h = refl
    reference_none (suc (suc zero)) h = refl
    reference_none (suc (suc (suc zero))) h = refl
    reference_none (suc (suc (suc (suc zero)))) h = refl
    reference_none (suc (suc (suc (suc (suc zero))))) h = refl
    reference_none (suc (suc (suc (suc (suc (suc r)))))) h = sym (get_or-eq_default references any_record (h (omega arith)))

-- the kind k of record i
pub kind_is : (rd : Reader) (mode i k : ℕ) (t : Bool) → k ≡ rd i 0 → t ≡ is_kind mode k → t ≡ kind_fits mode rd i
unfolding kind_fits
kind_is rd mode i k t ek e = rw (← ek) e

-- the class k of record j, whose words are x
pub class_read : (rd : Reader) (c j k : ℕ) (x : Record) → (c ≡ 0 → ⊥) → RecordIs rd j x → k ≡ class x.kind → eqb k c ≡ has_class rd c j
unfolding has_class class_at
class_read rd c j k x h e ek = eq_no c 0 true _ (eqb k c) h (rw (ek, e.kind_is) refl)

-- The loop over a chain: what is left of it gives the answer.
module _ (rd : Reader) (test : ℕ → Bool) (j at : ℕ) (inv : every test (items rd j) ≡ every test (items rd at)) where
  every_step : (at ≡ 0 → ⊥) → every test (items rd at) ≡ elim (test (lower rd at 1)) [ true ↦ every test (items rd (lower rd at 3)) | false ↦ false ]
  unfolding every
  every_step p = ap (every test) (items_step rd at (omega arith))

  module _ (p : at ≡ 0 → ⊥) (x : ℕ) (ex : x ≡ lower rd at 1) (r : Bool) (er : r ≡ test x) where
    pub every_stop : not r ≡ true → false ≡ every test (items rd j)
    every_stop h = rw (inv, every_step p, ← ex, ← er, not-true r h)

    pub every_more : not r ≡ false → (next : ℕ) → next ≡ lower rd at 3 → every test (items rd j) ≡ every test (items rd next)
    every_more h next e = rw (inv, every_step p, ← ex, ← er, not-false r h, ← e)

  pub every_end : at ≡ 0 → true ≡ every test (items rd j)
  unfolding every
  every_end h = rw (inv, h, items_zero rd)

-- "reference zero, not smaller or of wrong class", without the items of chains: word a of record i, a reference in role r
unfoldable pub points_well : Reader → ℕ → ℕ → ℕ → Bool
points_well rd i r a = if_eq a 0 (may_be_zero r) (both (ltb a i) (has_class rd (wanted_class r) a))

-- the same of a word that may be no reference; of word w of record i; of its three words
unfoldable pub points_in : Reader → ℕ → ℕ → ℕ → Bool
points_in rd i r a = if_lt r 6 true (points_well rd i r a)

unfoldable pub points_at : Reader → ℕ → ℕ → Bool
points_at rd i w = points_in rd i (role_at rd i w) (rd i w)

unfoldable pub points_fit : Reader → ℕ → Bool
points_fit rd i = both (points_at rd i 1) (both (points_at rd i 2) (points_at rd i 3))

-- the items of the chain that word w of record i names have the class that is asked for; those of its three words
unfoldable pub items_at : Reader → ℕ → ℕ → Bool
items_at rd i w = items_have_class rd (item_class (role_at rd i w)) (rd i w)

unfoldable pub items_fit : Reader → ℕ → Bool
items_fit rd i = both (items_at rd i 1) (both (items_at rd i 2) (items_at rd i 3))

-- The ways out of `points_well`: n packs what the role asks for.
module _ (rd : Reader) (i r a n : ℕ) (e : Packed n r) where
  pub points_zero : a ≡ 0 → (t : Bool) → t ≡ zero_in n → t ≡ points_well rd i r a
  unfolding points_well
  points_zero z t h = eq_yes a 0 _ _ t z (h ∙ e.zero)

  pub points_class : (a ≡ 0 → ⊥) → a < i → (c : ℕ) → c ≡ class_in n → (t : Bool) → t ≡ has_class rd c a → t ≡ points_well rd i r a
  unfolding points_well both
  points_class p below c ec t h = eq_no a 0 _ _ t p (simp (both, lt-ltb a i below, ← e.class, ← ec) h)

pub points_far : (rd : Reader) (i r a : ℕ) → (a ≡ 0 → ⊥) → i ≤ a → false ≡ points_well rd i r a
unfolding points_well both
points_far rd i r a p h = eq_no a 0 _ _ false p (simp (both, le-ltb a i h))

-- The ways out of `points_in`.
module _ (rd : Reader) (i r a : ℕ) where
  pub points_nothing : r < 6 → true ≡ points_in rd i r a
  unfolding points_in
  points_nothing h = lt_yes r 6 _ _ true h refl

  pub points_some : 6 ≤ r → (t : Bool) → t ≡ points_well rd i r a → t ≡ points_in rd i r a
  unfolding points_in
  points_some h t e = lt_no r 6 _ _ t h e

-- word w of record i, in a role that is no reference
pub points_free : (rd : Reader) (i w q : ℕ) → q < 6 → q ≡ role_at rd i w → true ≡ points_at rd i w
unfolding points_at
points_free rd i w q h e = rw (← e) (points_nothing rd i q (rd i w) h)

-- a word a in the role of a reference is in its range
pub range_any : (r a : ℕ) → 6 ≤ r → true ≡ in_range r a
unfolding in_range if_eq
range_any r a h =
    simp (in_range, if_eq, ne_eqb r 0 (λ e. omega arith), ne_eqb r 2 (λ e. omega arith), ne_eqb r 3 (λ e. omega arith), ne_eqb r 4 (λ e. omega arith), ne_eqb r 5 (λ e. omega arith))

-- a word a in its role q, as the record has them
module _ (rd : Reader) (i w q a : ℕ) (t : Bool) where
  pub points_is : t ≡ points_in rd i q a → q ≡ role_at rd i w → a ≡ rd i w → t ≡ points_at rd i w
  unfolding points_at
  points_is e eq ea = rw (← eq, ← ea) e

  pub points_here : t ≡ points_well rd i q a → 6 ≤ q → q ≡ role_at rd i w → a ≡ rd i w → t ≡ points_at rd i w
  points_here e h eq ea = points_is (points_some rd i q a h t e) eq ea

  pub range_is : t ≡ in_range q a → q ≡ role_at rd i w → a ≡ rd i w → t ≡ range_at rd i w
  unfolding range_at
  range_is e eq ea = rw (← eq, ← ea) e

-- chains of types
pub types_none : (rd : Reader) (c : ℕ) → c ≡ 0 → false ≡ types_fit rd c
unfolding types_fit between
types_none rd c h = rw (h, linked_none rd) (lt_yes 0 1 false _ false (omega arith) refl)

pub types_some : (rd : Reader) (c : ℕ) → (c ≡ 0 → ⊥) → (t : Bool) → t ≡ leb (length (linked rd c)) 5 → t ≡ types_fit rd c
unfolding types_fit between
types_some rd c h t e = lt_no (length (linked rd c)) 1 false _ t (omega (arith, linked_length rd c h)) e

-- The ways out of `chains_of`.
module _ (rd : Reader) (i k : ℕ) (ek : k ≡ rd i 0) where
  pub chains_function : k ≡ 8 → (c : ℕ) → c ≡ rd i 1 → (t : Bool) → t ≡ types_fit rd c → t ≡ item_chains_fit rd i
  unfolding item_chains_fit if_eq
  chains_function h c ec t e = simp (item_chains_fit, if_eq, ← ek, eq-eqb k 8 h, ← ec) e

  pub chains_other : (k ≡ 8 → ⊥) → (k ≡ 13 → ⊥) → true ≡ item_chains_fit rd i
  unfolding item_chains_fit if_eq
  chains_other h g = simp (item_chains_fit, if_eq, ← ek, ne_eqb k 8 h, ne_eqb k 13 g)

  module _ (h : k ≡ 8 → ⊥) (g : k ≡ 13) (c : ℕ) (ec : c ≡ rd i 2) (t : Bool) (et : t ≡ types_fit rd c) where
    pub chains_types : not t ≡ true → false ≡ item_chains_fit rd i
    unfolding item_chains_fit if_eq both
    chains_types n = simp (item_chains_fit, if_eq, both, ← ek, ne_eqb k 8 h, eq-eqb k 13 g, ← ec, ← et, not-true t n)

    pub chains_both : not t ≡ false → (d : ℕ) → d ≡ rd i 3 → (u : Bool) → u ≡ arguments_fit rd d → u ≡ item_chains_fit rd i
    unfolding item_chains_fit if_eq both
    chains_both n d ed u e = simp (item_chains_fit, if_eq, both, ← ek, ne_eqb k 8 h, eq-eqb k 13 g, ← ec, ← et, not-false t n, ← ed) e
