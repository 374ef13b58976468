-- In files without faults each term and each formula, types removed, is one of the language without types.
use Prim.Native.Nat.{ℕ, zero, suc, ◌<◌, ◌≤◌}
use Rattle.std.specs.Prelude.{◌≡◌, refl, Bool, false, ◌⊎◌, eqb, ltb}
use Rattle.std.proofs.Math.Path.{sym, ap, subst}
use Rattle.std.proofs.Common.{◌∙◌, inl, inr, eqb-true, ltb-true, ltb-false}
use Rattle.std.proofs.Math.Bool.{true}
use Rattle.std.proofs.Math.Logic.{⊎_elim}
use native.Mathlib.Omega.{arith}
use Rattle.std.proofs.lemmas.Bool.{eqb-false}
use Rattle.reader.specs.Words.{Reader}
use Rattle.reader.specs.Tests.{every, if_eq, if_lt, if_true}
use Rattle.reader.specs.Kinds.{class, role, class_at}
use Rattle.reader.specs.Trees.{Tree, leaf, node, lower, child, atom, tree, kind_of}
use Rattle.reader.specs.Chains.{items}
use Rattle.reader.specs.Records.{has_class}
use Rattle.reader.specs.Places.{is_hypothesis}
use Rattle.reader.specs.TreeLaws.{below, tree_zero, tree_step_lem, lower_below, items_zero, items_step}
use Rattle.reader.specs.Notions.{IsTerm, IsFormula}
use Rattle.reader_laws.specs.Scan.{every_head, either_parts}
use Rattle.reader_laws.specs.Record.{Sound, class_is, items_are}
use Rattle.reader_laws.specs.Classes.{term_class, formula_class, function_class, link_class, class_of_kind}
use Rattle.reader_laws.specs.Parts
use Rattle.derivation_rules.specs.Erase.{is_type, untyped, bare, ⌊◌⌋, bare_tree}
use Rattle.derivation_meaning.proofs.EraseLaws.{bare_cases, formula_erase}
use Rattle.derivation_meaning.specs.Formulas.{Term, Arguments, Formula, OfLanguage}

-- the class of a record, types removed, is its own, or its kind is 22
record_class : (rd : Reader) (i c : ℕ) → 0 < i → class (kind_of ⌊ tree rd i ⌋) ≡ c → (rd i 0 ≡ 22) ⊎ (class (rd i 0) ≡ c)
unfolding ⌊◌⌋ class kind_of if_lt
record_class rd i c pos h =
    bare_cases (rd i 0) (atom rd i) ⌊ tree rd (child rd i 1) ⌋ ⌊ tree rd (child rd i 2) ⌋ ⌊ tree rd (child rd i 3) ⌋
    (λ t. class (kind_of t) ≡ c → (rd i 0 ≡ 22) ⊎ (class (rd i 0) ≡ c)) (λ e q. inr (ap class e ∙ q)) (λ e q. inl e) (λ p r q. inr q)
    (subst (λ (t : Tree). class (kind_of ⌊ t ⌋) ≡ c) (tree_step_lem rd i pos) h)

-- a record's tree has its kind
pub tree_kind : (rd : Reader) (i : ℕ) → 0 < i → kind_of (tree rd i) ≡ rd i 0
unfolding kind_of
tree_kind rd i pos = ap kind_of (tree_step_lem rd i pos)

no_kind : (rd : Reader) → kind_of (tree rd 0) ≡ 22 → ⊥
unfolding kind_of
no_kind rd e = let z : 0 ≡ kind_of (tree rd 0) = ap kind_of (sym (tree_zero rd)) in absurd (omega arith)

-- a leaf has no class
leaf_class : (c : ℕ) → class (kind_of ⌊ leaf ⌋) ≡ c → 1 ≤ c → ⊥
unfolding ⌊◌⌋ class kind_of if_lt
leaf_class c h p = absurd (omega arith)

-- a formula is no term
formula_kind : {rd : Reader} {t : Tree} → Formula rd t → class (kind_of t) ≡ 5
unfolding class kind_of if_lt
formula_kind Formula.false = refl
formula_kind (Formula.conjunction p q) = refl
formula_kind (Formula.implication p q) = refl
formula_kind (Formula.negation p) = refl
formula_kind (Formula.universal p) = refl
formula_kind (Formula.equation p q) = refl
formula_kind (Formula.membership p q) = refl

not_both : (rd : Reader) (t : Tree) → Formula rd t → class (kind_of t) ≡ 4 → ⊥
not_both rd t p h = absurd (omega (arith, formula_kind p))

-- a number is l, or it is not
choose : {C : Type 0} (k l : ℕ) → (k ≡ l → C) → ((k ≡ l → ⊥) → C) → C
choose {C = C} k l p q = go (eqb k l) refl
  where
    go : (b : Bool) → eqb k l ≡ b → C
    go true e = p (eqb-true k l e)
    go false e = q (eqb-false k l e)

-- the class of a link is no other
not_link : (c : ℕ) → c ≡ class 1 → 2 ≤ c → ⊥
unfolding class if_lt
not_link c e h = absurd (omega arith)

-- a number from l on is l, or is past it
rise : {C : Type 0} (k l : ℕ) → l ≤ k → (k ≡ l → C) → (suc l ≤ k → C) → C
rise k l h p q = choose k l p (λ n. q (omega arith))

-- Record 0 is the header, and records 1 to m have no fault.
module _ (mode : ℕ) (rd : Reader) (head : rd 0 0 ≡ 1) (m : ℕ) (all : (j : ℕ) → 1 ≤ j → j ≤ m → Sound mode rd j) where
  -- what is known of record i: as a term, as a formula, as a link of a chain of arguments
  record Known (i : ℕ) : Type 0 where
    term : class (rd i 0) ≡ 4 → Term rd ⌊ tree rd i ⌋
    formula : class (rd i 0) ≡ 5 → Formula rd ⌊ tree rd i ⌋
    arguments : ((i ≡ 0 → ⊥) → class (rd i 0) ≡ 1) → every (has_class rd 4) (items rd i) ≡ true → Arguments rd ⌊ tree rd i ⌋

  no_arguments : Arguments rd ⌊ leaf ⌋
  unfolding ⌊◌⌋
  no_arguments = Arguments.none

  module _ (i : ℕ) (pos : 1 ≤ i) (most : i ≤ m) (ih : (j : ℕ) → j < i → Known j) where
    sound : Sound mode rd i
    sound = all i pos most

    -- what word w names
    term_at : (w : ℕ) → Parts.Part rd i w 4 → Term rd ⌊ tree rd (rd i w) ⌋
    term_at w p = (ih (rd i w) p.smaller).term (sym (class_of_kind rd (rd i w)) ∙ p.class)

    formula_at : (w : ℕ) → Parts.Part rd i w 5 → Formula rd ⌊ tree rd (rd i w) ⌋
    formula_at w p = (ih (rd i w) p.smaller).formula (sym (class_of_kind rd (rd i w)) ∙ p.class)

    arguments_at : (w : ℕ) → Parts.Chain rd i w 4 → Arguments rd ⌊ tree rd (rd i w) ⌋
    unfolding every
    arguments_at w c = choose (rd i w) 0 none given
      where
        none : rd i w ≡ 0 → Arguments rd ⌊ tree rd (rd i w) ⌋
        none z = (ih (rd i w) (omega arith)).arguments (λ q. absurd (q z)) (rw (z, items_zero rd))

        given : (rd i w ≡ 0 → ⊥) → Arguments rd ⌊ tree rd (rd i w) ⌋
        given q =
            (ih (rd i w) (c.smaller q)).arguments (λ z. sym (class_of_kind rd (rd i w)) ∙ c.class q)
            (items_are rd 4 (rd i w) (c.items_of q) (λ z. absurd (omega arith)))

    function_at : (w : ℕ) → Parts.Part rd i w 6 → (rd (rd i w) 0 ≡ 8) × (tree rd (rd i w) ≡ node 8 (rd i w) leaf leaf leaf)
    function_at w p =
        let less : rd i w < i = p.smaller in
        let kind : rd (rd i w) 0 ≡ 8 = function_class (rd (rd i w) 0) (sym (class_of_kind rd (rd i w)) ∙ p.class) in
        (kind, Parts.function_tree mode rd (rd i w) (all (rd i w) p.given (omega arith)) p.given kind)

    -- terms, by their kinds
    constant_formed : rd i 0 ≡ 7 → Term rd ⌊ tree rd i ⌋
    unfolding ⌊◌⌋ bare untyped is_type role if_eq if_lt if_true
    constant_formed e = rw (Parts.constant_tree mode rd i sound pos e) (Term.constant e)

    bound_variable_formed : rd i 0 ≡ 9 → Term rd ⌊ tree rd i ⌋
    unfolding ⌊◌⌋ bare untyped is_type role if_eq if_lt if_true
    bound_variable_formed e = rw (Parts.bound_variable_tree mode rd i sound pos e) (Term.variable)

    pair_formed : rd i 0 ≡ 10 → Term rd ⌊ tree rd i ⌋
    unfolding ⌊◌⌋ bare untyped is_type role if_eq if_lt if_true
    pair_formed e =
        let first = term_at 1 (Parts.pair_first mode rd i sound e) in
        let second = term_at 2 (Parts.pair_second mode rd i sound e) in
        rw (Parts.pair_tree mode rd i sound pos e) (Term.pair first second)

    product_formed : rd i 0 ≡ 11 → Term rd ⌊ tree rd i ⌋
    unfolding ⌊◌⌋ bare untyped is_type role if_eq if_lt if_true
    product_formed e =
        let first = term_at 1 (Parts.product_first mode rd i sound e) in
        let second = term_at 2 (Parts.product_second mode rd i sound e) in
        rw (Parts.product_tree mode rd i sound pos e) (Term.product first second)

    powerset_formed : rd i 0 ≡ 12 → Term rd ⌊ tree rd i ⌋
    unfolding ⌊◌⌋ bare untyped is_type role if_eq if_lt if_true
    powerset_formed e = rw (Parts.powerset_tree mode rd i sound pos e) (Term.powerset (term_at 1 (Parts.powerset_first mode rd i sound e)))

    application_formed : rd i 0 ≡ 13 → Term rd ⌊ tree rd i ⌋
    unfolding ⌊◌⌋ bare untyped is_type role if_eq if_lt if_true
    application_formed e =
        let f = function_at 1 (Parts.application_first mode rd i sound e) in
        rw (Parts.application_tree mode rd i sound pos e, f.1) (Term.application f.0 (arguments_at 3 (Parts.application_third mode rd i sound e)))

    choice_formed : rd i 0 ≡ 23 → Term rd ⌊ tree rd i ⌋
    unfolding ⌊◌⌋ bare untyped is_type role if_eq if_lt if_true
    choice_formed e = rw (Parts.choice_tree mode rd i sound pos e) (Term.choice (term_at 1 (Parts.choice_first mode rd i sound e)))

    -- formulas, by their kinds
    false_formed : rd i 0 ≡ 14 → Formula rd ⌊ tree rd i ⌋
    unfolding ⌊◌⌋ bare untyped is_type role if_eq if_lt if_true
    false_formed e = rw (Parts.false_tree mode rd i sound pos e) (Formula.false)

    true_formed : rd i 0 ≡ 15 → Formula rd ⌊ tree rd i ⌋
    unfolding ⌊◌⌋ bare untyped is_type role if_eq if_lt if_true
    true_formed e = rw (Parts.true_tree mode rd i sound pos e) (Formula.negation Formula.false)

    and_formed : rd i 0 ≡ 16 → Formula rd ⌊ tree rd i ⌋
    unfolding ⌊◌⌋ bare untyped is_type role if_eq if_lt if_true
    and_formed e =
        let first = formula_at 1 (Parts.and_first mode rd i sound e) in
        let second = formula_at 2 (Parts.and_second mode rd i sound e) in
        rw (Parts.and_tree mode rd i sound pos e) (Formula.conjunction first second)

    implies_formed : rd i 0 ≡ 17 → Formula rd ⌊ tree rd i ⌋
    unfolding ⌊◌⌋ bare untyped is_type role if_eq if_lt if_true
    implies_formed e =
        let first = formula_at 1 (Parts.implies_first mode rd i sound e) in
        let second = formula_at 2 (Parts.implies_second mode rd i sound e) in
        rw (Parts.implies_tree mode rd i sound pos e) (Formula.implication first second)

    not_formed : rd i 0 ≡ 18 → Formula rd ⌊ tree rd i ⌋
    unfolding ⌊◌⌋ bare untyped is_type role if_eq if_lt if_true
    not_formed e = rw (Parts.not_tree mode rd i sound pos e) (Formula.negation (formula_at 1 (Parts.not_first mode rd i sound e)))

    for_all_formed : rd i 0 ≡ 19 → Formula rd ⌊ tree rd i ⌋
    unfolding ⌊◌⌋ bare untyped is_type role if_eq if_lt if_true
    for_all_formed e = rw (Parts.for_all_tree mode rd i sound pos e) (Formula.universal (formula_at 2 (Parts.for_all_second mode rd i sound e)))

    equal_formed : rd i 0 ≡ 20 → Formula rd ⌊ tree rd i ⌋
    unfolding ⌊◌⌋ bare untyped is_type role if_eq if_lt if_true
    equal_formed e =
        let first = term_at 1 (Parts.equal_first mode rd i sound e) in
        let second = term_at 2 (Parts.equal_second mode rd i sound e) in
        rw (Parts.equal_tree mode rd i sound pos e) (Formula.equation first second)

    member_formed : rd i 0 ≡ 21 → Formula rd ⌊ tree rd i ⌋
    unfolding ⌊◌⌋ bare untyped is_type role if_eq if_lt if_true
    member_formed e =
        let first = term_at 1 (Parts.member_first mode rd i sound e) in
        let second = term_at 2 (Parts.member_second mode rd i sound e) in
        rw (Parts.member_tree mode rd i sound pos e) (Formula.membership first second)

    term_formed : class (rd i 0) ≡ 4 → Term rd ⌊ tree rd i ⌋
    term_formed h =
        let k : ℕ = rd i 0 in
        ⊎_elim (λ range.
        let high : k ≤ 13 = range.1 in
        rise k 7 range.0 constant_formed (λ a.
        rise k 8 a (λ e. absurd (range.2 e)) (λ a.
        rise k 9 a bound_variable_formed (λ a.
        rise k 10 a pair_formed (λ a.
        rise k 11 a product_formed (λ a.
        rise k 12 a powerset_formed (λ a.
        rise k 13 a application_formed (λ a. absurd (omega arith)))))))))
        choice_formed (term_class k h)

    formula_formed : class (rd i 0) ≡ 5 → Formula rd ⌊ tree rd i ⌋
    formula_formed h =
        let k : ℕ = rd i 0 in
        let range = formula_class k h in
        let high : k ≤ 21 = range.1 in
        rise k 14 range.0 false_formed (λ a.
        rise k 15 a true_formed (λ a.
        rise k 16 a and_formed (λ a.
        rise k 17 a implies_formed (λ a.
        rise k 18 a not_formed (λ a.
        rise k 19 a for_all_formed (λ a.
        rise k 20 a equal_formed (λ a.
        rise k 21 a member_formed (λ a. absurd (omega arith)))))))))

    -- a link, its item and the links after it
    link_formed : class (rd i 0) ≡ 1 → every (has_class rd 4) (items rd i) ≡ true → Arguments rd ⌊ tree rd i ⌋
    unfolding ⌊◌⌋ bare untyped is_type role if_eq if_lt if_true
    link_formed h terms =
        let kind : rd i 0 ≡ 1 = link_class (rd i 0) h in
        let item = Parts.link_item mode rd i sound kind in
        let next = Parts.link_third mode rd i sound kind in
        let both = every_head (has_class rd 4) (lower rd i 1) (items rd (lower rd i 3)) (ap (every (has_class rd 4)) (sym (items_step rd i pos)) ∙ terms) in
        let class_4 : class (rd (rd i 1) 0) ≡ 4 =
        sym (class_of_kind rd (rd i 1)) ∙ ap (class_at rd) (sym item.2) ∙ class_is rd 4 (lower rd i 1) both.0 (λ z. absurd (omega arith)) in
        let rest : every (has_class rd 4) (items rd (rd i 3)) ≡ true = ap (λ (j : ℕ). every (has_class rd 4) (items rd j)) (sym next.names) ∙ both.1 in
        let less : rd i 3 < i = subst (λ (j : ℕ). j < i) next.names (lower_below rd i 3 pos) in
        rw (Parts.link_tree mode rd i sound pos kind)
        (Arguments.more ((ih (rd i 1) item.1).term class_4)
        ((ih (rd i 3) less).arguments (λ q. sym (class_of_kind rd (rd i 3)) ∙ next.class q) rest))

  known : (i : ℕ) → i ≤ m → Known i
  known = below (λ i. i ≤ m → Known i) step
    where
      no_class : (c : ℕ) → class (rd 0 0) ≡ c → c ≡ class 1
      no_class c h = sym h ∙ ap class head

      step : (i : ℕ) → ((j : ℕ) → j < i → j ≤ m → Known j) → i ≤ m → Known i
      step zero ih most = record {
        term = λ h. absurd (not_link 4 (no_class 4 h) (omega arith));
        formula = λ h. absurd (not_link 5 (no_class 5 h) (omega arith));
        arguments = λ a b. rw (tree_zero rd) no_arguments;
      }
      step (suc i) ih most =
          let less : (j : ℕ) → j < suc i → Known j = λ j l. ih j l (omega arith) in
          record {
            term = term_formed (suc i) (omega arith) most less;
            formula = formula_formed (suc i) (omega arith) most less;
            arguments = λ a b. link_formed (suc i) (omega arith) most less (a (λ z. absurd (omega arith))) b;
          }

  -- for all types: its formula
  for_all_types_formed : (i : ℕ) → 1 ≤ i → i ≤ m → rd i 0 ≡ 22 → Formula rd ⌊ tree rd i ⌋
  unfolding ⌊◌⌋ bare if_eq
  for_all_types_formed i pos most e =
      let own : Sound mode rd i = all i pos most in
      let second = Parts.for_all_types_second mode rd i own e in
      let less : rd i 2 < i = second.smaller in
      rw (Parts.for_all_types_tree mode rd i own pos e)
      ((known (rd i 2) (omega arith)).formula (sym (class_of_kind rd (rd i 2)) ∙ second.class))

  module _ (past : (i : ℕ) → m < i → rd i 0 ≡ 0) where
    -- a record whose kind is not 0
    within : (i : ℕ) → 1 ≤ rd i 0 → i ≤ m
    within i h = go (ltb m i) refl
      where
        go : (b : Bool) → ltb m i ≡ b → i ≤ m
        go true e = let z : rd i 0 ≡ 0 = past i (ltb-true m i e) in absurd (omega arith)
        go false e = ltb-false m i e

    class_within : (i c : ℕ) → class (rd i 0) ≡ c → 1 ≤ c → i ≤ m
    unfolding class if_lt
    class_within i c h p = within i (positive (rd i 0) h)
      where
        positive : (k : ℕ) → class k ≡ c → 1 ≤ k
        positive zero h = let z : class 0 ≡ c = h in absurd (omega arith)
        positive (suc k) h = omega arith

    -- what is a formula once types are removed is one of the language
    pub formula_of : (i : ℕ) → IsFormula (bare_tree rd i) → Formula rd (bare_tree rd i)
    unfolding bare_tree
    formula_of zero h = absurd (leaf_class 5 (subst (λ (t : Tree). class (kind_of ⌊ t ⌋) ≡ 5) (tree_zero rd) h) (omega arith))
    formula_of (suc i) h =
        ⊎_elim (λ e. for_all_types_formed (suc i) (omega arith) (within (suc i) (omega arith)) e)
        (λ e. (known (suc i) (class_within (suc i) 5 e (omega arith))).formula e)
        (record_class rd (suc i) 5 (omega arith) h)

    pub term_of : (i : ℕ) → IsTerm (bare_tree rd i) → Term rd (bare_tree rd i)
    unfolding bare_tree
    term_of zero h = absurd (leaf_class 4 (subst (λ (t : Tree). class (kind_of ⌊ t ⌋) ≡ 4) (tree_zero rd) h) (omega arith))
    term_of (suc i) h =
        ⊎_elim (λ e. absurd (not_both rd _ (for_all_types_formed (suc i) (omega arith) (within (suc i) (omega arith)) e) h))
        (λ e. (known (suc i) (class_within (suc i) 4 e (omega arith))).term e)
        (record_class rd (suc i) 4 (omega arith) h)

    pub of_language : OfLanguage rd
    of_language = record { formulas = formula_of; terms = term_of }

    -- a record of class formula, and a hypothesis
    pub formula_record : (i : ℕ) → class (kind_of (tree rd i)) ≡ 5 → Formula rd (bare_tree rd i)
    unfolding bare_tree
    formula_record i h = formula_of i (formula_erase (tree rd i) h)

    pub hypothesis_of : (i : ℕ) → is_hypothesis (tree rd i) ≡ true → Formula rd (bare_tree rd i)
    unfolding is_hypothesis bare_tree
    hypothesis_of i h = either_parts _ _ h (λ e. formula_record i (eqb-true _ _ e)) (λ e. types i (eqb-true _ _ e))
      where
        types : (i : ℕ) → kind_of (tree rd i) ≡ 22 → Formula rd ⌊ tree rd i ⌋
        types zero e = absurd (no_kind rd e)
        types (suc i) e =
            let k : rd (suc i) 0 ≡ 22 = sym (tree_kind rd (suc i) (omega arith)) ∙ e in
            for_all_types_formed (suc i) (omega arith) (within (suc i) (omega arith)) k
