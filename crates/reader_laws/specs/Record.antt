-- What a record gives that has none of the refusals 3 to 10.
use Rattle.std.specs.Prelude.{ℕ, zero, suc, ◌<◌, ◌≤◌, List, [], ◌∷◌, Bool, not, ltb, length}
use Rattle.std.proofs.Math.Path.{◌≡◌, refl, sym, ap}
use Rattle.std.proofs.Common.{◌∙◌}
use Rattle.std.proofs.Math.Bool.{true, false}
use Rattle.std.proofs.lemmas.Bool.{false≢true}
use Rattle.std.proofs.Math.Dec.{eqb}
use native.Mathlib.Omega.{arith}
use borrow.Author.Tests.{eq-eqb, eqb-true, eqb-false, ltb-true, ltb-false, leb-true, not-true}
use Rattle.reader.specs.Words.{Reader}
use Rattle.reader.specs.Tests.{both, every, if_eq, if_lt}
use Rattle.reader.specs.Kinds.{is_kind, is_symbol, role, class_at, role_at}
use Rattle.reader.specs.Trees.{tree, lower}
use Rattle.reader.specs.Chains.{linked, items}
use Rattle.reader.specs.Weight.{is_weighed, weight}
use Rattle.reader.specs.Names.{name_of, name_space, name, is_name, same_name, taken_below, name_taken}
use Rattle.reader.specs.Typing.{is_typed}
use Rattle.reader.specs.Records.{in_range, range_at, ranges_fit, may_be_zero, wanted_class, item_class, has_class, items_have_class, refers, refers_at, references_fit}
use Rattle.reader.specs.Records.{name_length_fits, types_fit, arguments_fit, item_chains_fit, chains_fit, most_weight, weight_fits, name_spelled, name_is_free, typing_fits}
use Rattle.reader.specs.Records.{kind_fits, words_fault, content_fault, record_fault}
use Rattle.reader_laws.specs.Scan.{both_parts, both_join, demand_parts, demand_join, or_else_parts, or_else_join, when_equal, when_different, when_less, when_not_less, when_true, between_parts}

-- record i of a file of kind `mode` has no fault
pub record Sound (mode : ℕ) (rd : Reader) (i : ℕ) : Type 0 where
  pub kind : is_kind mode (rd i 0) ≡ true
  pub range : (w : ℕ) → 1 ≤ w → w ≤ 3 → range_at rd i w ≡ true
  pub reference : (w : ℕ) → 1 ≤ w → w ≤ 3 → refers_at rd i w ≡ true
  pub name_length : name_length_fits rd i ≡ true
  pub chains : item_chains_fit rd i ≡ true
  pub weighs : weight_fits mode rd i ≡ true
  pub named : name_spelled rd i ≡ true
  pub free : name_is_free rd i ≡ true
  pub typed : typing_fits mode rd i ≡ true

-- what holds of words 1, 2 and 3
words : (P : ℕ → Type 0) → P 1 → P 2 → P 3 → (w : ℕ) → 1 ≤ w → w ≤ 3 → P w
words P a b c zero p q = absurd (omega arith)
words P a b c (suc zero) p q = a
words P a b c (suc (suc zero)) p q = b
words P a b c (suc (suc (suc zero))) p q = c
words P a b c (suc (suc (suc (suc w)))) p q = absurd (omega arith)

-- a record without a refusal has no fault
pub record_parts : (mode : ℕ) (rd : Reader) (i : ℕ) → record_fault mode rd i ≡ 0 → Sound mode rd i
unfolding record_fault words_fault content_fault kind_fits ranges_fit references_fit chains_fit
record_parts mode rd i h =
    let halves = or_else_parts (words_fault mode rd i) (content_fault mode rd i) h in
    let k = demand_parts _ 3 _ halves.0 refl in
    let r = demand_parts _ 4 _ k.1 refl in
    let f = demand_parts _ 5 _ r.1 refl in
    let c = demand_parts _ 6 _ f.1 refl in
    let w = demand_parts _ 7 _ halves.1 refl in
    let n = demand_parts _ 8 _ w.1 refl in
    let t = demand_parts _ 9 _ n.1 refl in
    let y = demand_parts _ 10 _ t.1 refl in
    let r1 = both_parts (range_at rd i 1) (both (range_at rd i 2) (range_at rd i 3)) r.0 in
    let r2 = both_parts (range_at rd i 2) (range_at rd i 3) r1.1 in
    let f1 = both_parts (refers_at rd i 1) (both (refers_at rd i 2) (refers_at rd i 3)) f.0 in
    let f2 = both_parts (refers_at rd i 2) (refers_at rd i 3) f1.1 in
    let c1 = both_parts (name_length_fits rd i) (item_chains_fit rd i) c.0 in
    record {
      kind = k.0;
      range = words (λ w. range_at rd i w ≡ true) r1.0 r2.0 r2.1;
      reference = words (λ w. refers_at rd i w ≡ true) f1.0 f2.0 f2.1;
      name_length = c1.0;
      chains = c1.1;
      weighs = w.0;
      named = n.0;
      free = t.0;
      typed = y.0;
    }

-- and the other way round
pub record_join : (mode : ℕ) (rd : Reader) (i : ℕ) → Sound mode rd i → record_fault mode rd i ≡ 0
unfolding record_fault words_fault content_fault kind_fits ranges_fit references_fit chains_fit
record_join mode rd i s =
    let ranges : ranges_fit rd i ≡ true =
    both_join (range_at rd i 1) (both (range_at rd i 2) (range_at rd i 3)) (s.range 1 (omega arith) (omega arith))
    (both_join (range_at rd i 2) (range_at rd i 3) (s.range 2 (omega arith) (omega arith)) (s.range 3 (omega arith) (omega arith))) in
    let references : references_fit rd i ≡ true =
    both_join (refers_at rd i 1) (both (refers_at rd i 2) (refers_at rd i 3)) (s.reference 1 (omega arith) (omega arith))
    (both_join (refers_at rd i 2) (refers_at rd i 3) (s.reference 2 (omega arith) (omega arith)) (s.reference 3 (omega arith) (omega arith))) in
    let chains : chains_fit rd i ≡ true = both_join (name_length_fits rd i) (item_chains_fit rd i) s.name_length s.chains in
    or_else_join (words_fault mode rd i) (content_fault mode rd i)
    (demand_join _ 3 _ s.kind (demand_join _ 4 _ ranges (demand_join _ 5 _ references (demand_join _ 6 0 chains refl))))
    (demand_join _ 7 _ s.weighs (demand_join _ 8 _ s.named (demand_join _ 9 _ s.free (demand_join _ 10 0 s.typed refl))))

-- Words that are no references.
module _ (rd : Reader) (i w : ℕ) (fits : range_at rd i w ≡ true) where
  in_role : (r : ℕ) → role_at rd i w ≡ r → in_range r (rd i w) ≡ true
  unfolding range_at
  in_role r e = ap (λ x. in_range x (rd i w)) (sym e) ∙ fits

  -- a word in role 0 is 0
  pub word_zero : role_at rd i w ≡ 0 → rd i w ≡ 0
  unfolding in_range if_eq
  word_zero e = eqb-true (rd i w) 0 (in_role 0 e)

  -- numbers are in their ranges
  pub word_three : role_at rd i w ≡ 2 → rd i w < 4
  unfolding in_range if_eq
  word_three e = ltb-true (rd i w) 4 (in_role 2 e)

  pub word_four : role_at rd i w ≡ 3 → rd i w < 5
  unfolding in_range if_eq
  word_four e = ltb-true (rd i w) 5 (in_role 3 e)

  pub word_index : role_at rd i w ≡ 4 → rd i w < 64
  unfolding in_range if_eq
  word_index e = ltb-true (rd i w) 64 (in_role 4 e)

  pub word_count : role_at rd i w ≡ 5 → (1 ≤ rd i w) × (rd i w ≤ 4)
  unfolding in_range if_eq
  word_count e = between_parts 1 4 (rd i w) (in_role 5 e)

-- References.
module _ (rd : Reader) (i w : ℕ) (fits : refers_at rd i w ≡ true) (is : 6 ≤ role_at rd i w) where
  -- a reference that is 0 may be 0
  pub reference_zero : rd i w ≡ 0 → may_be_zero (role_at rd i w) ≡ true
  unfolding refers_at refers
  reference_zero e = sym (when_equal _ _ (rd i w) 0 e) ∙ sym (when_not_less true _ (role_at rd i w) 6 is) ∙ fits

  -- a reference that may not be 0 is not 0
  pub reference_given : may_be_zero (role_at rd i w) ≡ false → rd i w ≡ 0 → ⊥
  reference_given never e = false≢true (sym never ∙ reference_zero e)

  module _ (given : rd i w ≡ 0 → ⊥) where
    all_fit : both (ltb (rd i w) i) (both (has_class rd (wanted_class (role_at rd i w)) (rd i w)) (items_have_class rd (item_class (role_at rd i w)) (rd i w))) ≡ true
    unfolding refers_at refers
    all_fit = sym (when_different (may_be_zero (role_at rd i w)) _ (rd i w) 0 given) ∙ sym (when_not_less true _ (role_at rd i w) 6 is) ∙ fits

    -- it is to a smaller record
    pub reference_below : rd i w < i
    reference_below = ltb-true (rd i w) i (both_parts _ _ all_fit).0

    -- of the wanted class
    pub reference_class : has_class rd (wanted_class (role_at rd i w)) (rd i w) ≡ true
    reference_class = (both_parts _ _ (both_parts _ _ all_fit).1).0

    -- and so are the items of a chain there
    pub reference_items : items_have_class rd (item_class (role_at rd i w)) (rd i w) ≡ true
    reference_items = (both_parts _ _ (both_parts _ _ all_fit).1).1

    -- and it is what the record refers to
    pub reference_lower : lower rd i w ≡ rd i w
    unfolding lower
    reference_lower = when_less (rd i w) 0 (rd i w) i reference_below

-- a class that is wanted is the record's
pub class_is : (rd : Reader) (c j : ℕ) → has_class rd c j ≡ true → (c ≡ 0 → ⊥) → class_at rd j ≡ c
unfolding has_class
class_is rd c j h p = eqb-true (class_at rd j) c (sym (when_different true _ c 0 p) ∙ h)

-- and each item's
pub items_are : (rd : Reader) (c j : ℕ) → items_have_class rd c j ≡ true → (c ≡ 0 → ⊥) → every (has_class rd c) (items rd j) ≡ true
unfolding items_have_class
items_are rd c j h p = sym (when_different true _ c 0 p) ∙ h

-- a word's role, where the record's kind is known
pub role_known : (rd : Reader) (i w k : ℕ) → rd i 0 ≡ k → role_at rd i w ≡ role k w
unfolding role_at
role_known rd i w k e = ap (λ x. role x w) e

-- What a record without a fault says.
module _ (mode : ℕ) (rd : Reader) (i : ℕ) (s : Sound mode rd i) where
  -- a weighed record weighs no more than the limit
  pub weight_limit : is_weighed (rd i 0) ≡ true → weight (tree rd i) ≤ most_weight mode
  unfolding weight_fits
  weight_limit h = leb-true (weight (tree rd i)) (most_weight mode) (sym (when_true _ true (is_weighed (rd i 0)) h) ∙ s.weighs)

  -- it is typed, but in derivations
  pub is_typed_lem : (mode ≡ 2 → ⊥) → is_typed rd i ≡ true
  unfolding typing_fits
  is_typed_lem p = sym (when_different true _ mode 2 p) ∙ s.typed

  -- its name has at most 4 records
  pub name_length_lem : length (linked rd (name_of rd i)) ≤ 4
  unfolding name_length_fits
  name_length_lem = leb-true (length (linked rd (name_of rd i))) 4 s.name_length

  -- a function has 1 to 5 types
  pub function_types : rd i 0 ≡ 8 → (1 ≤ length (linked rd (rd i 1))) × (length (linked rd (rd i 1)) ≤ 5)
  unfolding item_chains_fit types_fit
  function_types e = between_parts 1 5 (length (linked rd (rd i 1))) (sym (when_equal _ _ (rd i 0) 8 e) ∙ s.chains)

  application_chains : rd i 0 ≡ 13 → both (types_fit rd (rd i 2)) (arguments_fit rd (rd i 3)) ≡ true
  unfolding item_chains_fit
  application_chains e =
      let no : rd i 0 ≡ 8 → ⊥ = λ q. omega arith in
      sym (when_equal _ true (rd i 0) 13 e) ∙ sym (when_different (types_fit rd (rd i 1)) _ (rd i 0) 8 no) ∙ s.chains

  -- an application has 1 to 5 types
  pub application_types : rd i 0 ≡ 13 → (1 ≤ length (linked rd (rd i 2))) × (length (linked rd (rd i 2)) ≤ 5)
  unfolding types_fit
  application_types e = between_parts 1 5 (length (linked rd (rd i 2))) (both_parts _ _ (application_chains e)).0

  -- and at most 4 arguments
  pub application_arguments : rd i 0 ≡ 13 → length (linked rd (rd i 3)) ≤ 4
  unfolding arguments_fit
  application_arguments e = leb-true (length (linked rd (rd i 3))) 4 (both_parts _ _ (application_chains e)).1

  -- a symbol's name is a name
  pub name_is_name : (name_of rd i ≡ 0 → ⊥) → is_name rd i ≡ true
  unfolding name_spelled if_eq
  name_is_name p = sym (when_different true (is_name rd i) (name_of rd i) 0 p) ∙ s.named

  -- and not taken
  pub name_not_taken : (name_of rd i ≡ 0 → ⊥) → name_taken rd i ≡ false
  unfolding name_is_free if_eq
  name_not_taken p = not-true (name_taken rd i) (sym (when_different true (not (name_taken rd i)) (name_of rd i) 0 p) ∙ s.free)

  name_word : (k w : ℕ) → rd i 0 ≡ k → role k w ≡ 6 → 1 ≤ w → w ≤ 3 → rd i w ≡ 0 → ⊥
  unfolding may_be_zero
  name_word k w e r p q =
      let six : role_at rd i w ≡ 6 = role_known rd i w k e ∙ r in
      reference_given rd i w (s.reference w p q) (omega arith) (ap may_be_zero six)

  -- a word in a role of references is at most the record's number
  pub word_most : (k w : ℕ) → rd i 0 ≡ k → 6 ≤ role k w → 1 ≤ w → w ≤ 3 → rd i w ≤ i
  word_most k w e r p q =
      let is : 6 ≤ role_at rd i w = rw (role_known rd i w k e) r in
      go is (s.reference w p q) (eqb (rd i w) 0) refl
    where
      go : 6 ≤ role_at rd i w → refers_at rd i w ≡ true → (b : Bool) → eqb (rd i w) 0 ≡ b → rd i w ≤ i
      go is fits true ez = let z : rd i w ≡ 0 = eqb-true (rd i w) 0 ez in omega arith
      go is fits false ez = let less : rd i w < i = reference_below rd i w fits is (eqb-false (rd i w) 0 ez) in omega arith

  -- and so is that of its name
  pub name_most : name_of rd i ≤ i
  unfolding name_of if_eq role if_lt
  name_most = go (eqb (rd i 0) 3) refl (eqb (rd i 0) 7) refl (eqb (rd i 0) 8) refl
    where
      go : (a : Bool) → eqb (rd i 0) 3 ≡ a → (b : Bool) → eqb (rd i 0) 7 ≡ b → (c : Bool) → eqb (rd i 0) 8 ≡ c →
          elim a as (λ x. ℕ) [ true ↦ rd i 1 | false ↦ elim b as (λ x. ℕ) [ true ↦ rd i 2 | false ↦ elim c as (λ x. ℕ) [ true ↦ rd i 3 | false ↦ 0 ] ] ] ≤ i
      go true ea b eb c ec = word_most 3 1 (eqb-true (rd i 0) 3 ea) (omega arith) (omega arith) (omega arith)
      go false ea true eb c ec = word_most 7 2 (eqb-true (rd i 0) 7 eb) (omega arith) (omega arith) (omega arith)
      go false ea false eb true ec = word_most 8 3 (eqb-true (rd i 0) 8 ec) (omega arith) (omega arith) (omega arith)
      go false ea false eb false ec = omega arith

  -- a symbol has a name
  pub symbol_named : is_symbol (rd i 0) ≡ true → name_of rd i ≡ 0 → ⊥
  unfolding is_symbol name_of if_eq role if_lt
  symbol_named h = go (eqb (rd i 0) 3) refl (eqb (rd i 0) 7) refl (eqb (rd i 0) 8) refl h
    where
      go : (a : Bool) → eqb (rd i 0) 3 ≡ a → (b : Bool) → eqb (rd i 0) 7 ≡ b → (c : Bool) → eqb (rd i 0) 8 ≡ c →
          ◌≡◌ {A = Bool} (elim a [ true ↦ true | false ↦ elim b [ true ↦ true | false ↦ c ] ]) true →
          ◌≡◌ {A = ℕ} (elim a [ true ↦ rd i 1 | false ↦ elim b [ true ↦ rd i 2 | false ↦ elim c [ true ↦ rd i 3 | false ↦ 0 ] ] ]) 0 → ⊥
      go true ea b eb c ec h = name_word 3 1 (eqb-true (rd i 0) 3 ea) refl (omega arith) (omega arith)
      go false ea true eb c ec h = name_word 7 2 (eqb-true (rd i 0) 7 eb) refl (omega arith) (omega arith)
      go false ea false eb true ec h = name_word 8 3 (eqb-true (rd i 0) 8 ec) refl (omega arith) (omega arith)
      go false ea false eb false ec h = absurd (false≢true h)

-- equal names are the same name
pub same_name_self : (cs : List ℕ) → same_name cs cs ≡ true
unfolding same_name
same_name_self [] = refl
same_name_self (c ∷ cs) = simp (same_name, eq-eqb c c refl) (same_name_self cs)

-- no smaller symbol of a name space has the characters
pub not_taken_below : (rd : Reader) (space : ℕ) (cs : List ℕ) (n : ℕ) → taken_below rd space cs n ≡ false →
    (j : ℕ) → 1 ≤ j → j ≤ n → name_space (rd j 0) ≡ space → same_name (name rd j) cs ≡ false
unfolding taken_below both
not_taken_below rd space cs zero h j p q e = absurd (omega arith)
not_taken_below rd space cs (suc n) h j p q e =
    go (eqb (name_space (rd (suc n) 0)) space) refl (same_name (name rd (suc n)) cs) refl h (eqb j (suc n)) refl
    (λ r u. not_taken_below rd space cs n r j p u e)
  where
    go : (a : Bool) → eqb (name_space (rd (suc n) 0)) space ≡ a → (b : Bool) → same_name (name rd (suc n)) cs ≡ b →
        ◌≡◌ {A = Bool} (elim (elim a as (λ x. Bool) [ true ↦ b | false ↦ false ]) [ true ↦ true | false ↦ taken_below rd space cs n ]) false →
        (d : Bool) → eqb j (suc n) ≡ d → (taken_below rd space cs n ≡ false → j ≤ n → same_name (name rd j) cs ≡ false) →
        same_name (name rd j) cs ≡ false
    go true ea true eb h d ed rest = absurd (false≢true (sym h))
    go true ea false eb h true ed rest = let same : j ≡ suc n = eqb-true j (suc n) ed in rw same eb
    go true ea false eb h false ed rest = let differ : j ≡ suc n → ⊥ = eqb-false j (suc n) ed in rest h (omega arith)
    go false ea b eb h true ed rest =
        let same : j ≡ suc n = eqb-true j (suc n) ed in
        let spaces : name_space (rd (suc n) 0) ≡ space = sym (ap (λ x. name_space (rd x 0)) same) ∙ e in
        absurd (eqb-false (name_space (rd (suc n) 0)) space ea spaces)
    go false ea b eb h false ed rest = let differ : j ≡ suc n → ⊥ = eqb-false j (suc n) ed in rest h (omega arith)

-- a name that is not taken differs from that of each smaller symbol of its name space
pub smaller_name_differs : (rd : Reader) (i j : ℕ) → name_taken rd i ≡ false → 1 ≤ j → j < i → name_space (rd j 0) ≡ name_space (rd i 0) →
    name rd j ≡ name rd i → ⊥
unfolding name_taken
smaller_name_differs rd zero j h p q e same = absurd (omega arith)
smaller_name_differs rd (suc n) j h p q e same =
    let differ = not_taken_below rd (name_space (rd (suc n) 0)) (name rd (suc n)) n h j p (omega arith) e in
    false≢true (sym differ ∙ ap (λ cs. same_name cs (name rd (suc n))) same ∙ same_name_self (name rd (suc n)))

-- two symbols of one name space, both with names that are not taken, have different names
pub names_differ : (rd : Reader) (i j : ℕ) → 1 ≤ i → 1 ≤ j → (i ≡ j → ⊥) → name_taken rd i ≡ false → name_taken rd j ≡ false →
    name_space (rd i 0) ≡ name_space (rd j 0) → name rd i ≡ name rd j → ⊥
names_differ rd i j p q differ hi hj e same = go (ltb j i) refl
  where
    go : (b : Bool) → ltb j i ≡ b → ⊥
    go true less = smaller_name_differs rd i j hi q (ltb-true j i less) (sym e) (sym same)
    go false more = let least : i ≤ j = ltb-false j i more in smaller_name_differs rd j i hj p (omega arith) e same
