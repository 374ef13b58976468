-- Laws of the typed language: what has no type, and that in files without faults each type, term and formula is well typed.
use Prim.Native.Nat.{ℕ, zero, suc, ◌+◌, ◌<◌, ◌≤◌}
use Rattle.std.specs.Prelude.{◌≡◌, refl, ◌∷◌, map, Bool, true, false, ◌⊎◌, eqb, ltb}
use Rattle.std.proofs.Math.Path.{sym, ap, subst}
use Rattle.std.proofs.Common.{◌∙◌, inl, inr, ⊎_elim, eqb-true, ltb-true, ltb-false}
use native.Mathlib.Omega.{arith}
use Rattle.std.proofs.lemmas.Bool.{eqb-false}
use Rattle.reader.specs.Words.{Reader}
use Rattle.reader.specs.Tests.{every, if_lt}
use Rattle.reader.specs.Kinds.{class}
use Rattle.reader.specs.Trees.{Tree, leaf, node, lower, tree, kind_of, ∀ᵗ, ◌=ᵗ◌, setᵗ, pairᵗ}
use Rattle.reader.specs.Chains.{items, item_trees}
use Rattle.reader.specs.Records.{has_class}
use Rattle.reader.specs.Typing.{type_of, signature}
use Rattle.reader.specs.TreeLaws.{below, tree_zero, tree_step_lem, lower_below, items_zero, items_step}
use Rattle.reader.specs.Variables.{binders}
use Rattle.reader.specs.Notions.{IndicesBelow, NoIndex, TypesBelow, Closed, Bears}
use Rattle.reader_laws.specs.Scan.{every_head}
use Rattle.reader_laws.specs.Record.{Sound, class_is, items_are}
use Rattle.reader_laws.specs.Classes.{type_class, term_class, formula_class, function_class, link_class, class_of_kind}
use Rattle.reader_laws.specs.Parts
use Rattle.reader_meaning.specs.Signs.{constantᵗ}
use Rattle.reader_meaning.specs.Typed.{Typed}
use Rattle.proof_meaning.specs.TypedTrees.{TypeOver, Types, IsConstant, IsFunction, HasType, Arguments, TypedFormula, PolymorphicFormula, TypedRecords}
use Rattle.proof_meaning.proofs.TypeLaws.{type_carried, carried}

-- What is well typed has the types that paper 01 and paper 02, U3, ask.

pub pair_types : {rd : Reader} {x y own τ : Tree} → HasType rd (node 10 0 x y own) τ → own ≡ pairᵗ (type_of x) (type_of y)
pair_types (HasType.pair p q) = let a = type_carried p in let b = type_carried q in cc

pub product_types : {rd : Reader} {x y own τ : Tree} → HasType rd (node 11 0 x y own) τ →
    (υ : Tree) × (φ : Tree) × (type_of x ≡ setᵗ υ) × (type_of y ≡ setᵗ φ) × (own ≡ setᵗ (pairᵗ υ φ))
product_types (HasType.product {τ = τ} {υ = υ} p q) = (τ, υ, type_carried p, type_carried q, refl)

pub powerset_types : {rd : Reader} {x own τ : Tree} → HasType rd (node 12 0 x own leaf) τ → (υ : Tree) × (type_of x ≡ setᵗ υ) × (own ≡ setᵗ (setᵗ υ))
powerset_types (HasType.powerset {τ = τ} p) = (τ, type_carried p, refl)

pub choice_types : {rd : Reader} {s own τ : Tree} → HasType rd (node 23 0 s own leaf) τ → type_of s ≡ setᵗ own
choice_types (HasType.choice p) = type_carried p

pub equation_types : {rd : Reader} {t u : Tree} → TypedFormula rd (t =ᵗ u) → type_of t ≡ type_of u
equation_types (TypedFormula.equation p q) = type_carried p ∙ sym (type_carried q)

pub membership_types : {rd : Reader} {x s : Tree} → TypedFormula rd (node 21 0 x s leaf) → type_of s ≡ setᵗ (type_of x)
membership_types (TypedFormula.membership p q) = type_carried q ∙ ap setᵗ (sym (type_carried p))

pub universal_types : {rd : Reader} {τ B : Tree} → TypedFormula rd (∀ᵗ τ B) → Bears τ 0 B
universal_types (TypedFormula.universal t f b) = b

-- Closedness of types and constants.

-- a type has no index
pub type_indices : {rd : Reader} {τ : Tree} (d : ℕ) → TypeOver rd τ → IndicesBelow d τ
type_indices d (TypeOver.given e) =
    IndicesBelow.inside (λ (q : ◌≡◌ {A = ℕ} 3 9). absurd (omega arith)) IndicesBelow.none IndicesBelow.none IndicesBelow.none
type_indices d (TypeOver.set t) =
    IndicesBelow.inside (λ (q : ◌≡◌ {A = ℕ} 4 9). absurd (omega arith)) (type_indices d t) IndicesBelow.none IndicesBelow.none
type_indices d (TypeOver.pair t u) =
    IndicesBelow.inside (λ (q : ◌≡◌ {A = ℕ} 5 9). absurd (omega arith)) (type_indices d t) (type_indices (d + binders 5) u) IndicesBelow.none
type_indices d (TypeOver.variable) =
    IndicesBelow.inside (λ (q : ◌≡◌ {A = ℕ} 6 9). absurd (omega arith)) IndicesBelow.none IndicesBelow.none IndicesBelow.none

-- a constant is closed
pub constant_closed : {rd : Reader} {c : ℕ} {τ υ : Tree} → HasType rd (constantᵗ c τ) υ → Closed (constantᵗ c τ)
constant_closed (HasType.constant k) = record {
  no_index = IndicesBelow.inside (λ (q : ◌≡◌ {A = ℕ} 7 9). absurd (omega arith)) (type_indices 0 k.type) IndicesBelow.none IndicesBelow.none;
  no_type_variable = TypesBelow.inside (λ (q : ◌≡◌ {A = ℕ} 7 6). absurd (omega arith)) k.no_variable TypesBelow.none TypesBelow.none;
}

-- What has no type.

nothing_untyped : {rd : Reader} {τ : Tree} → HasType rd leaf τ → ⊥
nothing_untyped h = elim h [ ]

-- the powerset of nothing has no type, whatever type it carries
pub no_powerset_of_nothing : {rd : Reader} {τ υ : Tree} → HasType rd (node 12 0 leaf τ leaf) υ → ⊥
no_powerset_of_nothing (HasType.powerset p) = nothing_untyped p

-- a term without unbound index has a constant or a function of the files in it
pub symbol_inside : {rd : Reader} {t τ : Tree} → HasType rd t τ → NoIndex t → (c : ℕ) × ((rd c 0 ≡ 7) ⊎ (rd c 0 ≡ 8))
symbol_inside (HasType.constant {c = c} k) i = (c, inl k.kind)
symbol_inside (HasType.variable t) (IndicesBelow.inside {a = a} own p q r) = let less : a < 0 = own refl in absurd (omega arith)
symbol_inside (HasType.pair p q) (IndicesBelow.inside own i j l) = symbol_inside p i
symbol_inside (HasType.product p q) (IndicesBelow.inside own i j l) = symbol_inside p i
symbol_inside (HasType.powerset p) (IndicesBelow.inside own i j l) = symbol_inside p i
symbol_inside (HasType.application {f = f} k ts x e) i = (f, inr k.kind)
symbol_inside (HasType.choice p) (IndicesBelow.inside own i j l) = symbol_inside p i

-- Records.

-- a number is l, or it is not
choose : {C : Type 0} (k l : ℕ) → (k ≡ l → C) → ((k ≡ l → ⊥) → C) → C
choose {C = C} k l p q = go (eqb k l) refl
  where
    go : (b : Bool) → eqb k l ≡ b → C
    go true e = p (eqb-true k l e)
    go false e = q (eqb-false k l e)

-- a number from l on is l, or is past it
rise : {C : Type 0} (k l : ℕ) → l ≤ k → (k ≡ l → C) → (suc l ≤ k → C) → C
rise k l h p q = choose k l p (λ n. q (omega arith))

-- the class of a link is no other
not_link : (c : ℕ) → c ≡ class 1 → 2 ≤ c → ⊥
unfolding class if_lt
not_link c e h = absurd (omega arith)

-- a leaf has no class
leaf_class : (rd : Reader) (c : ℕ) → class (kind_of (tree rd 0)) ≡ c → 1 ≤ c → ⊥
unfolding class kind_of if_lt
leaf_class rd c h p = let z : 0 ≡ class (kind_of (tree rd 0)) = ap (λ (t : Tree). class (kind_of t)) (sym (tree_zero rd)) in absurd (omega arith)

-- a record's tree has its kind
tree_kind : (rd : Reader) (i : ℕ) → 0 < i → kind_of (tree rd i) ≡ rd i 0
unfolding kind_of
tree_kind rd i pos = ap kind_of (tree_step_lem rd i pos)

-- Record 0 is the header, and records 1 to m have no fault and are typed as their kinds ask.
module _ (mode : ℕ) (rd : Reader) (head : rd 0 0 ≡ 1) (m : ℕ) (all : (j : ℕ) → 1 ≤ j → j ≤ m → Sound mode rd j)
    (typed : (j : ℕ) → 1 ≤ j → j ≤ m → Typed rd j) where
  -- what is known of record i: as a type, a term, a formula, a link of a chain of types, a link of a chain of arguments
  record Known (i : ℕ) : Type 0 where
    type : class (rd i 0) ≡ 3 → TypeOver rd (tree rd i)
    term : class (rd i 0) ≡ 4 → HasType rd (tree rd i) (type_of (tree rd i))
    formula : class (rd i 0) ≡ 5 → TypedFormula rd (tree rd i)
    types : ((i ≡ 0 → ⊥) → class (rd i 0) ≡ 1) → every (has_class rd 3) (items rd i) ≡ true → Types rd (tree rd i) (item_trees rd i)
    arguments : ((i ≡ 0 → ⊥) → class (rd i 0) ≡ 1) → every (has_class rd 4) (items rd i) ≡ true →
        Arguments rd (tree rd i) (map type_of (item_trees rd i))

  module _ (i : ℕ) (pos : 1 ≤ i) (most : i ≤ m) (ih : (j : ℕ) → j < i → Known j) where
    sound : Sound mode rd i
    sound = all i pos most

    own : Typed rd i
    own = typed i pos most

    -- what word w names
    type_at : (w : ℕ) → Parts.Part rd i w 3 → TypeOver rd (tree rd (rd i w))
    type_at w p = (ih (rd i w) p.smaller).type (sym (class_of_kind rd (rd i w)) ∙ p.class)

    term_at : (w : ℕ) → Parts.Part rd i w 4 → HasType rd (tree rd (rd i w)) (type_of (tree rd (rd i w)))
    term_at w p = (ih (rd i w) p.smaller).term (sym (class_of_kind rd (rd i w)) ∙ p.class)

    formula_at : (w : ℕ) → Parts.Part rd i w 5 → TypedFormula rd (tree rd (rd i w))
    formula_at w p = (ih (rd i w) p.smaller).formula (sym (class_of_kind rd (rd i w)) ∙ p.class)

    -- what holds of word w as a chain, where it holds of none and of a smaller link with items of class c
    chain_at : (c w : ℕ) (C : ℕ → Type 0) → 1 ≤ c → Parts.Chain rd i w c →
        ((j : ℕ) → j < i → ((j ≡ 0 → ⊥) → class (rd j 0) ≡ 1) → every (has_class rd c) (items rd j) ≡ true → C j) → C (rd i w)
    unfolding every
    chain_at c w C some p f = choose (rd i w) 0 none given
      where
        none : rd i w ≡ 0 → C (rd i w)
        none z = f (rd i w) (omega arith) (λ q. absurd (q z)) (rw (z, items_zero rd))

        given : (rd i w ≡ 0 → ⊥) → C (rd i w)
        given q =
            f (rd i w) (p.smaller q) (λ z. sym (class_of_kind rd (rd i w)) ∙ p.class q)
            (items_are rd c (rd i w) (p.items_of q) (λ z. absurd (omega arith)))

    types_at : (w : ℕ) → Parts.Chain rd i w 3 → Types rd (tree rd (rd i w)) (item_trees rd (rd i w))
    types_at w p = chain_at 3 w (λ j. Types rd (tree rd j) (item_trees rd j)) (omega arith) p (λ j l. (ih j l).types)

    arguments_at : (w : ℕ) → Parts.Chain rd i w 4 → Arguments rd (tree rd (rd i w)) (map type_of (item_trees rd (rd i w)))
    arguments_at w p = chain_at 4 w (λ j. Arguments rd (tree rd j) (map type_of (item_trees rd j))) (omega arith) p (λ j l. (ih j l).arguments)

    -- types, by their kinds
    given_type_typed : rd i 0 ≡ 3 → TypeOver rd (tree rd i)
    given_type_typed e = rw (Parts.given_type_tree mode rd i sound pos e) (TypeOver.given e)

    set_type_typed : rd i 0 ≡ 4 → TypeOver rd (tree rd i)
    set_type_typed e = rw (Parts.set_type_tree mode rd i sound pos e) (TypeOver.set (type_at 1 (Parts.set_type_first mode rd i sound e)))

    pair_type_typed : rd i 0 ≡ 5 → TypeOver rd (tree rd i)
    pair_type_typed e =
        let first = type_at 1 (Parts.pair_type_first mode rd i sound e) in
        let second = type_at 2 (Parts.pair_type_second mode rd i sound e) in
        rw (Parts.pair_type_tree mode rd i sound pos e) (TypeOver.pair first second)

    type_variable_typed : rd i 0 ≡ 6 → TypeOver rd (tree rd i)
    type_variable_typed e = rw (Parts.type_variable_tree mode rd i sound pos e) (TypeOver.variable)

    type_typed : class (rd i 0) ≡ 3 → TypeOver rd (tree rd i)
    type_typed h =
        let k : ℕ = rd i 0 in
        let range = type_class k h in
        let high : k ≤ 6 = range.1 in
        rise k 3 range.0 given_type_typed (λ a.
        rise k 4 a set_type_typed (λ a.
        rise k 5 a pair_type_typed (λ a.
        rise k 6 a type_variable_typed (λ a. absurd (omega arith)))))

    -- terms, by their kinds
    constant_typed : rd i 0 ≡ 7 → HasType rd (tree rd i) (type_of (tree rd i))
    constant_typed e =
        let shape = Parts.constant_tree mode rd i sound pos e in
        let type = type_at 1 (Parts.constant_first mode rd i sound e) in
        let c : IsConstant rd i (tree rd (rd i 1)) = record { kind = e; typed = refl; type = type; no_variable = own.constant _ _ shape } in
        carried shape (HasType.constant c)

    variable_typed : rd i 0 ≡ 9 → HasType rd (tree rd i) (type_of (tree rd i))
    variable_typed e =
        carried (Parts.bound_variable_tree mode rd i sound pos e) (HasType.variable (type_at 2 (Parts.bound_variable_second mode rd i sound e)))

    pair_typed : rd i 0 ≡ 10 → HasType rd (tree rd i) (type_of (tree rd i))
    pair_typed e =
        let shape = Parts.pair_tree mode rd i sound pos e in
        let first = term_at 1 (Parts.pair_first mode rd i sound e) in
        let second = term_at 2 (Parts.pair_second mode rd i sound e) in
        carried (shape ∙ ap (node 10 0 (tree rd (rd i 1)) (tree rd (rd i 2))) (own.pair _ _ _ shape)) (HasType.pair first second)

    product_typed : rd i 0 ≡ 11 → HasType rd (tree rd i) (type_of (tree rd i))
    product_typed e =
        let shape = Parts.product_tree mode rd i sound pos e in
        let p = own.product _ _ _ shape in
        let first = subst (HasType rd (tree rd (rd i 1))) p.2 (term_at 1 (Parts.product_first mode rd i sound e)) in
        let second = subst (HasType rd (tree rd (rd i 2))) p.3 (term_at 2 (Parts.product_second mode rd i sound e)) in
        carried (shape ∙ ap (node 11 0 (tree rd (rd i 1)) (tree rd (rd i 2))) p.4) (HasType.product first second)

    powerset_typed : rd i 0 ≡ 12 → HasType rd (tree rd i) (type_of (tree rd i))
    powerset_typed e =
        let shape = Parts.powerset_tree mode rd i sound pos e in
        let p = own.powerset _ _ shape in
        let first = subst (HasType rd (tree rd (rd i 1))) p.1 (term_at 1 (Parts.powerset_first mode rd i sound e)) in
        carried (shape ∙ ap (λ (τ : Tree). node 12 0 (tree rd (rd i 1)) τ leaf) p.2) (HasType.powerset first)

    -- the function that word w names
    function_at : (w : ℕ) → Parts.Part rd i w 6 →
        (tree rd (rd i w) ≡ node 8 (rd i w) leaf leaf leaf) × IsFunction rd (rd i w) (rd (rd i w) 2) (signature rd (rd i w))
    unfolding signature
    function_at w p =
        let f : ℕ = rd i w in
        let less : f < i = p.smaller in
        let low : 1 ≤ f = p.given in
        let high : f ≤ m = omega arith in
        let kind : rd f 0 ≡ 8 = function_class (rd f 0) (sym (class_of_kind rd f) ∙ p.class) in
        let part = Parts.function_first_given mode rd f (all f low high) kind in
        let chain = Parts.function_first mode rd f (all f low high) kind in
        let smaller : rd f 1 < f = part.smaller in
        let is : Types rd (tree rd (rd f 1)) (item_trees rd (rd f 1)) =
        (ih (rd f 1) (omega arith)).types (λ z. sym (class_of_kind rd (rd f 1)) ∙ part.class)
        (items_are rd 3 (rd f 1) (chain.items_of (λ z. let given : 1 ≤ rd f 1 = part.given in absurd (omega arith))) (λ z. absurd (omega arith))) in
        let same : item_trees rd (rd f 1) ≡ item_trees rd (lower rd f 1) = ap (item_trees rd) (sym part.names) in (
          Parts.function_tree mode rd f (all f low high) low kind,
          record {
            kind = kind;
            parameters = refl;
            signature = subst (Types rd (tree rd (rd f 1))) same is;
            variables = (typed f low high).function kind;
          },
        )

    application_typed : rd i 0 ≡ 13 → HasType rd (tree rd i) (type_of (tree rd i))
    application_typed e =
        let f = function_at 1 (Parts.application_first mode rd i sound e) in
        let a = own.application e in
        let shape = Parts.application_tree mode rd i sound pos e in
        let types = subst (Types rd (tree rd (rd i 2))) a.types_are (types_at 2 (Parts.application_second mode rd i sound e)) in
        let function = subst (λ (n : ℕ). IsFunction rd (rd i 1) n (signature rd (rd i 1))) (sym a.parameters) f.1 in
        carried (shape ∙ ap (λ (t : Tree). node 13 0 t (tree rd (rd i 2)) (tree rd (rd i 3))) f.0)
        (HasType.application function types (arguments_at 3 (Parts.application_third mode rd i sound e)) a.fits)

    choice_typed : rd i 0 ≡ 23 → HasType rd (tree rd i) (type_of (tree rd i))
    choice_typed e =
        let shape = Parts.choice_tree mode rd i sound pos e in
        let first = subst (HasType rd (tree rd (rd i 1))) (own.choice _ _ shape) (term_at 1 (Parts.choice_first mode rd i sound e)) in
        carried shape (HasType.choice first)

    term_typed : class (rd i 0) ≡ 4 → HasType rd (tree rd i) (type_of (tree rd i))
    term_typed h =
        let k : ℕ = rd i 0 in
        ⊎_elim (λ range.
        let high : k ≤ 13 = range.1 in
        rise k 7 range.0 constant_typed (λ a.
        rise k 8 a (λ e. absurd (range.2 e)) (λ a.
        rise k 9 a variable_typed (λ a.
        rise k 10 a pair_typed (λ a.
        rise k 11 a product_typed (λ a.
        rise k 12 a powerset_typed (λ a.
        rise k 13 a application_typed (λ a. absurd (omega arith)))))))))
        choice_typed (term_class k h)

    -- formulas, by their kinds
    false_typed : rd i 0 ≡ 14 → TypedFormula rd (tree rd i)
    false_typed e = rw (Parts.false_tree mode rd i sound pos e) (TypedFormula.false)

    true_typed : rd i 0 ≡ 15 → TypedFormula rd (tree rd i)
    true_typed e = rw (Parts.true_tree mode rd i sound pos e) (TypedFormula.true)

    and_typed : rd i 0 ≡ 16 → TypedFormula rd (tree rd i)
    and_typed e =
        let first = formula_at 1 (Parts.and_first mode rd i sound e) in
        let second = formula_at 2 (Parts.and_second mode rd i sound e) in
        rw (Parts.and_tree mode rd i sound pos e) (TypedFormula.conjunction first second)

    implies_typed : rd i 0 ≡ 17 → TypedFormula rd (tree rd i)
    implies_typed e =
        let first = formula_at 1 (Parts.implies_first mode rd i sound e) in
        let second = formula_at 2 (Parts.implies_second mode rd i sound e) in
        rw (Parts.implies_tree mode rd i sound pos e) (TypedFormula.implication first second)

    not_typed : rd i 0 ≡ 18 → TypedFormula rd (tree rd i)
    not_typed e = rw (Parts.not_tree mode rd i sound pos e) (TypedFormula.negation (formula_at 1 (Parts.not_first mode rd i sound e)))

    for_all_typed : rd i 0 ≡ 19 → TypedFormula rd (tree rd i)
    for_all_typed e =
        let shape = Parts.for_all_tree mode rd i sound pos e in
        let type = type_at 1 (Parts.for_all_first mode rd i sound e) in
        let body = formula_at 2 (Parts.for_all_second mode rd i sound e) in
        rw shape (TypedFormula.universal type body (own.universal _ _ shape))

    equal_typed : rd i 0 ≡ 20 → TypedFormula rd (tree rd i)
    equal_typed e =
        let shape = Parts.equal_tree mode rd i sound pos e in
        let first = term_at 1 (Parts.equal_first mode rd i sound e) in
        let second = term_at 2 (Parts.equal_second mode rd i sound e) in
        rw shape (TypedFormula.equation first (subst (HasType rd (tree rd (rd i 2))) (sym (own.equation _ _ shape)) second))

    member_typed : rd i 0 ≡ 21 → TypedFormula rd (tree rd i)
    member_typed e =
        let shape = Parts.member_tree mode rd i sound pos e in
        let first = term_at 1 (Parts.member_first mode rd i sound e) in
        let second = term_at 2 (Parts.member_second mode rd i sound e) in
        rw shape (TypedFormula.membership first (subst (HasType rd (tree rd (rd i 2))) (own.membership _ _ shape) second))

    formula_typed : class (rd i 0) ≡ 5 → TypedFormula rd (tree rd i)
    formula_typed h =
        let k : ℕ = rd i 0 in
        let range = formula_class k h in
        let high : k ≤ 21 = range.1 in
        rise k 14 range.0 false_typed (λ a.
        rise k 15 a true_typed (λ a.
        rise k 16 a and_typed (λ a.
        rise k 17 a implies_typed (λ a.
        rise k 18 a not_typed (λ a.
        rise k 19 a for_all_typed (λ a.
        rise k 20 a equal_typed (λ a.
        rise k 21 a member_typed (λ a. absurd (omega arith)))))))))

    -- a link, its item and the links after it, where all items are of class c
    record Linked (c : ℕ) : Type 0 where
      shape : tree rd i ≡ node 1 0 (tree rd (rd i 1)) leaf (tree rd (rd i 3))
      trees : item_trees rd i ≡ tree rd (rd i 1) ∷ item_trees rd (rd i 3)
      item : rd i 1 < i
      item_class : class (rd (rd i 1) 0) ≡ c
      next : rd i 3 < i
      next_link : (rd i 3 ≡ 0 → ⊥) → class (rd (rd i 3) 0) ≡ 1
      next_items : every (has_class rd c) (items rd (rd i 3)) ≡ true

    link_of : (c : ℕ) → 1 ≤ c → class (rd i 0) ≡ 1 → every (has_class rd c) (items rd i) ≡ true → Linked c
    unfolding item_trees
    link_of c some h all-c =
        let kind : rd i 0 ≡ 1 = link_class (rd i 0) h in
        let item = Parts.link_item mode rd i sound kind in
        let next = Parts.link_third mode rd i sound kind in
        let step : items rd i ≡ rd i 1 ∷ items rd (rd i 3) =
        items_step rd i pos ∙ ap (λ (j : ℕ). j ∷ items rd (lower rd i 3)) item.2 ∙ ap (λ (j : ℕ). rd i 1 ∷ items rd j) next.names in
        let both = every_head (has_class rd c) (rd i 1) (items rd (rd i 3)) (ap (every (has_class rd c)) (sym step) ∙ all-c) in
        record {
          shape = Parts.link_tree mode rd i sound pos kind;
          trees = ap (map (tree rd)) step;
          item = item.1;
          item_class = sym (class_of_kind rd (rd i 1)) ∙ class_is rd c (rd i 1) both.0 (λ z. absurd (omega arith));
          next = subst (λ (j : ℕ). j < i) next.names (lower_below rd i 3 pos);
          next_link = λ q. sym (class_of_kind rd (rd i 3)) ∙ next.class q;
          next_items = both.1;
        }

    types_typed : class (rd i 0) ≡ 1 → every (has_class rd 3) (items rd i) ≡ true → Types rd (tree rd i) (item_trees rd i)
    types_typed h each =
        let l = link_of 3 (omega arith) h each in
        rw (l.shape, l.trees)
        (Types.more ((ih (rd i 1) l.item).type l.item_class) ((ih (rd i 3) l.next).types l.next_link l.next_items))

    arguments_typed : class (rd i 0) ≡ 1 → every (has_class rd 4) (items rd i) ≡ true → Arguments rd (tree rd i) (map type_of (item_trees rd i))
    arguments_typed h each =
        let l = link_of 4 (omega arith) h each in
        rw (l.shape, l.trees)
        (Arguments.more ((ih (rd i 1) l.item).term l.item_class) ((ih (rd i 3) l.next).arguments l.next_link l.next_items))

  known : (i : ℕ) → i ≤ m → Known i
  unfolding item_trees
  known = below (λ i. i ≤ m → Known i) step
    where
      no_class : (c : ℕ) → class (rd 0 0) ≡ c → c ≡ class 1
      no_class c h = sym h ∙ ap class head

      step : (i : ℕ) → ((j : ℕ) → j < i → j ≤ m → Known j) → i ≤ m → Known i
      step zero ih most = record {
        type = λ h. absurd (not_link 3 (no_class 3 h) (omega arith));
        term = λ h. absurd (not_link 4 (no_class 4 h) (omega arith));
        formula = λ h. absurd (not_link 5 (no_class 5 h) (omega arith));
        types = λ a b. rw (tree_zero rd, items_zero rd) Types.none;
        arguments = λ a b. rw (tree_zero rd, items_zero rd) Arguments.none;
      }
      step (suc i) ih most =
          let less : (j : ℕ) → j < suc i → Known j = λ j l. ih j l (omega arith) in
          let given : suc i ≡ 0 → ⊥ = λ z. omega arith in
          record {
            type = type_typed (suc i) (omega arith) most less;
            term = term_typed (suc i) (omega arith) most less;
            formula = formula_typed (suc i) (omega arith) most less;
            types = λ a b. types_typed (suc i) (omega arith) most less (a given) b;
            arguments = λ a b. arguments_typed (suc i) (omega arith) most less (a given) b;
          }

  -- for all types: its count and its formula
  for_all_types_typed : (i : ℕ) → 1 ≤ i → i ≤ m → rd i 0 ≡ 22 → PolymorphicFormula rd (tree rd i)
  for_all_types_typed i pos most e =
      let own : Sound mode rd i = all i pos most in
      let count = Parts.for_all_types_first mode rd i own e in
      let second = Parts.for_all_types_second mode rd i own e in
      let less : rd i 2 < i = second.smaller in
      rw (Parts.for_all_types_tree mode rd i own pos e)
      (PolymorphicFormula.for_all_types count.0 count.1
      ((known (rd i 2) (omega arith)).formula (sym (class_of_kind rd (rd i 2)) ∙ second.class)))

  module _ (past : (i : ℕ) → m < i → rd i 0 ≡ 0) where
    -- a record whose kind is not 0
    within : (i : ℕ) → 1 ≤ rd i 0 → i ≤ m
    within i h = go (ltb m i) refl
      where
        go : (b : Bool) → ltb m i ≡ b → i ≤ m
        go true e = let z : rd i 0 ≡ 0 = past i (ltb-true m i e) in absurd (omega arith)
        go false e = ltb-false m i e

    class_within : (i c : ℕ) → class (rd i 0) ≡ c → 1 ≤ c → i ≤ m
    unfolding class if_lt
    class_within i c h p = within i (positive (rd i 0) h)
      where
        positive : (k : ℕ) → class k ≡ c → 1 ≤ k
        positive zero h = let z : class 0 ≡ c = h in absurd (omega arith)
        positive (suc k) h = omega arith

    -- what holds of a tree of class c, where it holds of records of the class
    of_class_lem : (c : ℕ) (C : ℕ → Type 0) → 1 ≤ c → ((i : ℕ) → i ≤ m → class (rd i 0) ≡ c → C i) → (i : ℕ) → class (kind_of (tree rd i)) ≡ c → C i
    of_class_lem c C some f zero h = absurd (leaf_class rd c h some)
    of_class_lem c C some f (suc i) h =
        let e : class (rd (suc i) 0) ≡ c = ap class (sym (tree_kind rd (suc i) (omega arith))) ∙ h in
        f (suc i) (class_within (suc i) c e some) e

    polymorphic_typed : (i : ℕ) → kind_of (tree rd i) ≡ 22 → PolymorphicFormula rd (tree rd i)
    unfolding kind_of
    polymorphic_typed zero h = let z : 0 ≡ kind_of (tree rd 0) = ap kind_of (sym (tree_zero rd)) in absurd (omega arith)
    polymorphic_typed (suc i) h =
        let e : rd (suc i) 0 ≡ 22 = sym (tree_kind rd (suc i) (omega arith)) ∙ h in
        for_all_types_typed (suc i) (omega arith) (within (suc i) (omega arith)) e

    pub typed_records : TypedRecords rd
    typed_records = record {
      types = of_class_lem 3 (λ i. TypeOver rd (tree rd i)) (omega arith) (λ i l. (known i l).type);
      terms = of_class_lem 4 (λ i. HasType rd (tree rd i) (type_of (tree rd i))) (omega arith) (λ i l. (known i l).term);
      formulas = of_class_lem 5 (λ i. TypedFormula rd (tree rd i)) (omega arith) (λ i l. (known i l).formula);
      polymorphic = polymorphic_typed;
    }
