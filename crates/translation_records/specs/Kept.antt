-- Records of the proof that the lines of a block name, as the derivation has them.
use Rattle.std.specs.Prelude.{ℕ, zero, suc, ◌<◌, ◌≤◌, ◌≡◌, refl, List, Bool, true, get_or, length}
use Rattle.std.proofs.Common.{sym, ap, subst, ◌∙◌, ⊎_elim, arith}
use Rattle.reader.specs.Words.{Reader}
use Rattle.reader.specs.Tests.{if_eq, if_lt}
use Rattle.reader.specs.Kinds.{class, class_at, role}
use Rattle.reader.specs.Trees.{tree, kind_of, lower}
use Rattle.reader.specs.TreeLaws.{below, lower_below, tree_zero, tree_step_lem, items_zero, items_step}
use Rattle.reader.specs.Chains.{items}
use Rattle.reader.specs.Weight.{is_weighed, weight}
use Rattle.reader.specs.Records.{most_weight}
use Rattle.reader_laws.specs.Scan.{when_different}
use Rattle.reader_laws.specs.Record.{Sound, weight_limit}
use Rattle.reader_laws.specs.Parts.{Part, type_part, term_part, formula_part, constant_first, bound_variable_second, pair_third, product_third}
use Rattle.reader_laws.specs.Parts.{powerset_second, application_second, application_second_given, choice_second, link_item}
use Rattle.reader_laws.specs.Classes.{class_of_kind, term_class, link_class}
use Rattle.reader_laws.specs.Links.{item_class}
use Rattle.translation_rules.specs.Output.{type_record_by, type_record}
use Rattle.translation_records.specs.Choices.{choose_equal}
use Rattle.translation_records.specs.Fits.{word_class}
use Rattle.translation_records.specs.Lines.{most_of, Named}

-- the kind of a record that is not 0 is that of its tree
pub tree_kind : (rd : Reader) (i : ℕ) → 1 ≤ i → kind_of (tree rd i) ≡ rd i 0
unfolding kind_of
tree_kind rd i p = ap kind_of (tree_step_lem rd i p)

-- a tree that has a kind is not that of record 0
pub tree_given : (rd : Reader) (i : ℕ) → 1 ≤ kind_of (tree rd i) → 1 ≤ i
unfolding kind_of
tree_given rd zero p = let z : kind_of (tree rd 0) ≡ 0 = ap kind_of (tree_zero rd) in absurd (omega arith)
tree_given rd (suc i) p = omega arith

-- the items of a chain are at most its first link; past its end there is 0
pub item_below : (rd : Reader) (c j : ℕ) → get_or (items rd c) j 0 ≤ c
item_below rd = below (λ c. (j : ℕ) → get_or (items rd c) j 0 ≤ c) step
  where
    step : (c : ℕ) → ((b : ℕ) → b < c → (j : ℕ) → get_or (items rd b) j 0 ≤ b) → (j : ℕ) → get_or (items rd c) j 0 ≤ c
    step zero f j = rw (items_zero rd) (omega arith)
    step (suc c) f zero = rw (items_step rd (suc c) (omega arith)) (omega (arith, lower_below rd (suc c) 1 (omega arith)))
    step (suc c) f (suc j) =
        let less : lower rd (suc c) 3 < suc c = lower_below rd (suc c) 3 (omega arith) in
        let rest : get_or (items rd (lower rd (suc c) 3)) j 0 ≤ lower rd (suc c) 3 = f (lower rd (suc c) 3) less j in
        rw (items_step rd (suc c) (omega arith)) (omega arith)

-- only words 1 to 3 have a role
role_past : (k w : ℕ) → 4 ≤ w → role k w ≡ 0
unfolding role
role_past k w h =
    when_different _ _ w 1 (λ e. omega arith) ∙ when_different _ _ w 2 (λ e. omega arith) ∙ when_different _ _ w 3 (λ e. omega arith)

-- and none of kind 0
role_none : (w : ℕ) → role 0 w ≡ 0
unfolding role if_eq if_lt
role_none zero = refl
role_none (suc zero) = refl
role_none (suc (suc zero)) = refl
role_none (suc (suc (suc zero))) = refl
role_none (suc (suc (suc (suc w)))) = role_past 0 (suc (suc (suc (suc w)))) (omega arith)

role_word : (k w : ℕ) → 1 ≤ role k w → (1 ≤ w) × (w ≤ 3)
unfolding role if_eq
role_word k zero h = absurd (omega arith)
role_word k (suc zero) h = (omega arith, omega arith)
role_word k (suc (suc zero)) h = (omega arith, omega arith)
role_word k (suc (suc (suc zero))) h = (omega arith, omega arith)
role_word k (suc (suc (suc (suc w)))) h = absurd (omega (arith, role_past k (suc (suc (suc (suc w)))) (omega arith)))

-- a word of types, terms or formulas
word_cases : {C : Type 0} (k w c : ℕ) → word_class k w ≡ c → 1 ≤ c → (role k w ≡ 12 → 3 ≡ c → C) → (role k w ≡ 13 → 4 ≡ c → C) → (role k w ≡ 14 → 5 ≡ c → C) → C
unfolding word_class
word_cases {C} k w c e p f g h =
    let Claim : ℕ → Type 0 = λ n. n ≡ c → C in
    choose_equal Claim (role k w) 12 f
    (λ _. choose_equal Claim (role k w) 13 g (λ _. choose_equal Claim (role k w) 14 h (λ _ z. absurd (omega arith)))) e

-- kind 0 has none
pub no_word : (w : ℕ) → word_class 0 w ≡ 0
unfolding word_class if_eq
no_word w = rw (role_none w)

-- the word that it is in names a record of that class
word_part : (mode : ℕ) (rd : Reader) (i k w c : ℕ) → Sound mode rd i → rd i 0 ≡ k → word_class k w ≡ c → 1 ≤ c → Part rd i w c
word_part mode rd i k w c s e h p =
    word_cases k w c h p
    (λ r q. let b = role_word k w (omega arith) in subst (λ (c : ℕ). Part rd i w c) q (type_part mode rd i s k e w b.0 b.1 r))
    (λ r q. let b = role_word k w (omega arith) in subst (λ (c : ℕ). Part rd i w c) q (term_part mode rd i s k e w b.0 b.1 r))
    (λ r q. let b = role_word k w (omega arith) in subst (λ (c : ℕ). Part rd i w c) q (formula_part mode rd i s k e w b.0 b.1 r))

-- the last kind of a term is an application
more_than : {a k : ℕ} → a ≤ k → (k ≡ a → ⊥) → suc a ≤ k
more_than low differ = omega arith

last_of_five : (k : ℕ) → 9 ≤ k → k ≤ 13 → (k ≡ 9 → ⊥) → (k ≡ 10 → ⊥) → (k ≡ 11 → ⊥) → (k ≡ 12 → ⊥) → k ≡ 13
last_of_five k low high no9 no10 no11 no12 = omega arith

last_term : (k : ℕ) → class k ≡ 4 → (k ≡ 7 → ⊥) → (k ≡ 9 → ⊥) → (k ≡ 10 → ⊥) → (k ≡ 11 → ⊥) → (k ≡ 12 → ⊥) → (k ≡ 23 → ⊥) → k ≡ 13
last_term k e no7 no9 no10 no11 no12 no23 =
    ⊎_elim (λ range. last_of_five k (more_than (more_than range.0 no7) range.2) range.1 no9 no10 no11 no12) (λ choice. absurd (no23 choice))
    (term_class k e)

-- types, terms and formulas are weighed
sort_weighed : (k : ℕ) → 3 ≤ class k → class k ≤ 5 → is_weighed k ≡ true
unfolding is_weighed
sort_weighed k low high =
    let Holds : Bool → Type 0 = λ t. t ≡ true in
    choose_equal Holds (class k) 3 (λ _. refl)
    (λ a. choose_equal Holds (class k) 4 (λ _. refl) (λ b. choose_equal Holds (class k) 5 (λ _. refl) (λ c. absurd (omega arith))))

-- 4,096 is allowed for every class
least_most : (c : ℕ) → 4096 ≤ most_of c
unfolding most_of
least_most c = choose_equal (λ (n : ℕ). 4096 ≤ n) c 4 (λ _. omega arith) (λ _. omega arith)

-- The records of a proof without a fault, and those of the derivation in their place.
module _ (rd ro : Reader) (last : ℕ) (sound : (i : ℕ) → 1 ≤ i → i ≤ last → Sound 1 rd i)
    (kept : (i : ℕ) → i ≤ last → 3 ≤ class (rd i 0) → tree ro i ≡ tree rd i)
    (kept-class : (i : ℕ) → i ≤ last → 1 ≤ class (rd i 0) → class (ro i 0) ≡ class (rd i 0)) where
  -- a type, a term or a formula of a proof weighs at most 4,096
  sort_weight : (v : ℕ) → 1 ≤ v → v ≤ last → 3 ≤ class (rd v 0) → class (rd v 0) ≤ 5 → weight (tree rd v) ≤ 4096
  unfolding most_weight if_eq
  sort_weight v p q low high = weight_limit 1 rd v (sound v p q) (sort_weighed (rd v 0) low high)

  -- a record of a class is one of the derivation
  pub named_kept : (b v c : ℕ) → last < b → 1 ≤ v → v ≤ last → class (rd v 0) ≡ c → 1 ≤ c → Named ro b c v
  named_kept b v c less p q e low = record {
    given = p;
    smaller = omega arith;
    has = λ no. kept-class v q (omega arith) ∙ e;
    weighs = λ x y. omega (arith, ap weight (kept v q (omega arith)), sort_weight v p q (omega arith) (omega arith), least_most c);
  }

  -- and so is what a word of it names
  pub named_word : (b p k w c : ℕ) → last < b → 1 ≤ p → p ≤ last → rd p 0 ≡ k → word_class k w ≡ c → 1 ≤ c → Named ro b c (rd p w)
  named_word b p k w c less h q e f low =
      let x : Part rd p w c = word_part 1 rd p k w c (sound p h q) e f low in
      let below = x.smaller in
      named_kept b (rd p w) c less x.given (omega arith) (sym (class_of_kind rd (rd p w)) ∙ x.class) low

  -- a record of a type
  abbrev pub TypeAt : ℕ → Type 0
  TypeAt v = (1 ≤ v) × (v ≤ last) × (class (rd v 0) ≡ 3)

  type_word : (x w : ℕ) → x ≤ last → Part rd x w 3 → TypeAt (rd x w)
  type_word x w q h = let below = h.smaller in (h.given, omega arith, sym (class_of_kind rd (rd x w)) ∙ h.class)

  -- the first of an application's types
  type_item : (x : ℕ) → x ≤ last → rd x 0 ≡ 13 → Sound 1 rd x → TypeAt (rd (rd x 2) 1)
  type_item x q e s =
      let given : Part rd x 2 1 = application_second_given 1 rd x s e in
      let least : 1 ≤ rd x 2 = given.given in
      let less : rd x 2 < x = given.smaller in
      let link : rd (rd x 2) 0 ≡ 1 = link_class (rd (rd x 2) 0) (sym (class_of_kind rd (rd x 2)) ∙ given.class) in
      let item = link_item 1 rd (rd x 2) (sound (rd x 2) least (omega arith)) link in
      let below : rd (rd x 2) 1 < rd x 2 = item.1 in
      let first : get_or (items rd (rd x 2)) 0 0 ≡ rd (rd x 2) 1 = ap (λ (xs : List ℕ). get_or xs 0 0) (items_step rd (rd x 2) least) ∙ item.2 in
      let more : length (items rd (rd x 2)) ≡ suc (length (items rd (lower rd (rd x 2) 3))) = ap length (items_step rd (rd x 2) least) in
      let types = (application_second 1 rd x s e).items_of (λ z. absurd (omega arith)) in
      let type : class_at rd (get_or (items rd (rd x 2)) 0 0) ≡ 3 = item_class rd 3 (rd x 2) types (λ z. absurd (omega arith)) 0 (omega arith) in
      (item.0, omega arith, sym (class_of_kind rd (rd (rd x 2) 1)) ∙ ap (class_at rd) (sym first) ∙ type)

  -- the type's record of a term
  pub type_record_lem : (x : ℕ) → 1 ≤ x → x ≤ last → class (rd x 0) ≡ 4 → TypeAt (type_record rd x)
  unfolding type_record type_record_by
  type_record_lem x p q e =
      let s = sound x p q in
      choose_equal TypeAt (rd x 0) 7 (λ h. type_word x 1 q (constant_first 1 rd x s h)) (λ not7.
      choose_equal TypeAt (rd x 0) 9 (λ h. type_word x 2 q (bound_variable_second 1 rd x s h)) (λ not9.
      choose_equal TypeAt (rd x 0) 10 (λ h. type_word x 3 q (pair_third 1 rd x s h)) (λ not10.
      choose_equal TypeAt (rd x 0) 11 (λ h. type_word x 3 q (product_third 1 rd x s h)) (λ not11.
      choose_equal TypeAt (rd x 0) 12 (λ h. type_word x 2 q (powerset_second 1 rd x s h)) (λ not12.
      choose_equal TypeAt (rd x 0) 23 (λ h. type_word x 2 q (choice_second 1 rd x s h)) (λ not23.
      type_item x q (last_term (rd x 0) e not7 not9 not10 not11 not12 not23) s))))))
