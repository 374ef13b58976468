-- A record is typed as its kind asks exactly where the test of its typing passes.
use Rattle.std.specs.Prelude.{ℕ, zero, suc, ◌+◌, ◌<◌, List, [], ◌∷◌, map, Bool, length, get_or, drop}
use Rattle.std.proofs.Math.Path.{◌≡◌, refl, ap, subst}
use Rattle.std.proofs.Common.{sym, ◌∙◌, arith, eq-eqb, eqb-true}
use Rattle.std.proofs.Math.Bool.{true, false}
use Rattle.std.proofs.lemmas.Bool.{false≢true}
use Rattle.std.proofs.Math.Dec.{eqb}
use Rattle.reader.specs.Words.{Reader}
use Rattle.reader.specs.Tests.{both, if_eq}
use Rattle.reader.specs.Trees.{Tree, leaf, node, lower, child, tree, kind_of, first_of, second_of, third_of, same, setᵗ, pairᵗ}
use Rattle.reader.specs.Chains.{item_trees}
use Rattle.reader.specs.Variables.{types_below, instance}
use Rattle.reader.specs.TreeLaws.{tree_zero, tree_step_lem, same_equal, same_self}
use Rattle.reader.specs.Typing.{type_of, same_all, pair_typed, product_typed, powerset_typed, choice_typed, equal_typed, member_typed, for_all_typed}
use Rattle.reader.specs.Typing.{constant_typed, signature, function_typed, application_typed, typing_of, is_typed}
use Rattle.reader_laws.specs.Scan.{both_parts, both_join}
use Rattle.reader.specs.Notions.{TypesBelow}
use Rattle.reader_laws.specs.NotionLaws.{every_in, every_out, types_in, types_out, bears_in, bears_out}
use Rattle.reader_meaning.proofs.TreeForms.{kind_is, constant_made, pair_made, product_made, powerset_made, choice_made}
use Rattle.reader_meaning.proofs.TreeForms.{for_all_made, equal_made, member_made, set_made}
use Rattle.reader_meaning.specs.Typed.{Applied, Typed}

-- what record j says, or nothing, is a type of a tree of a record
first_record : (rd : Reader) (j : ℕ) → (l : ℕ) × (first_of (tree rd j) ≡ tree rd l)
unfolding first_of
first_record rd zero = (0, rw (tree_zero rd))
first_record rd (suc j) = (child rd (suc j) 1, rw (tree_step_lem rd (suc j) (omega arith)))

-- one of two trees of records
pick : (rd : Reader) (k c : ℕ) (x y : Tree) → (l : ℕ) × (x ≡ tree rd l) → (l : ℕ) × (y ≡ tree rd l) → (l : ℕ) × (if_eq k c x y ≡ tree rd l)
unfolding if_eq
pick rd k c x y p q = go (eqb k c)
  where
    go : (b : Bool) → (l : ℕ) × ((elim b as (λ v. Tree) [ true ↦ x | false ↦ y ]) ≡ tree rd l)
    go true = p
    go false = q

type_record_lem : (rd : Reader) (j : ℕ) → (l : ℕ) × (type_of (tree rd j) ≡ tree rd l)
unfolding type_of
type_record_lem rd zero = (0, rw (tree_zero rd))
type_record_lem rd (suc j) =
    let own : (w : ℕ) → (l : ℕ) × (tree rd (child rd (suc j) w) ≡ tree rd l) = λ w. (child rd (suc j) w, refl) in
    let k = rd (suc j) 0 in
    rw (tree_step_lem rd (suc j) (omega arith))
    (pick rd k 7 _ _ (own 1) (pick rd k 9 _ _ (own 2) (pick rd k 10 _ _ (own 3) (pick rd k 11 _ _ (own 3)
    (pick rd k 12 _ _ (own 2) (pick rd k 13 _ _ (first_record rd (child rd (suc j) 2)) (pick rd k 23 _ _ (own 2) (0, sym (tree_zero rd)))))))))

-- a type of kind 4 is a set's
set_type : (rd : Reader) (j : ℕ) → kind_of (type_of (tree rd j)) ≡ 4 → type_of (tree rd j) ≡ setᵗ (first_of (type_of (tree rd j)))
unfolding first_of
set_type rd j h =
    let l = type_record_lem rd j in
    let e = set_made rd l.0 (ap kind_of (sym l.1) ∙ h) in
    let s : type_of (tree rd j) ≡ setᵗ (tree rd (child rd l.0 1)) = l.1 ∙ e in
    rw s

set_of : (rd : Reader) (j : ℕ) (x : Tree) → x ≡ tree rd j → kind_of (type_of x) ≡ 4 → type_of x ≡ setᵗ (first_of (type_of x))
set_of rd j x e h = rw e (set_type rd j (rw e at h))

-- products and powersets that fit
product_fits : (x y own τ υ : Tree) → type_of x ≡ setᵗ τ → type_of y ≡ setᵗ υ → own ≡ setᵗ (pairᵗ τ υ) → product_typed (node 11 0 x y own) ≡ true
unfolding product_typed first_of second_of third_of kind_of
product_fits x y own τ υ p q r = rw (p, q, r) (both_join _ _ refl (both_join _ _ refl (same_self _)))

powerset_fits : (x own τ : Tree) → type_of x ≡ setᵗ τ → own ≡ setᵗ (setᵗ τ) → powerset_typed (node 12 0 x own leaf) ≡ true
unfolding powerset_typed first_of second_of kind_of
powerset_fits x own τ p q = rw (p, q) (both_join _ _ refl (same_self _))

-- equal lists of trees
all_same : (ts us : List Tree) → same_all ts us ≡ true → ts ≡ us
unfolding same_all
all_same [] [] h = refl
all_same [] (u ∷ us) h = absurd (false≢true h)
all_same (t ∷ ts) [] h = absurd (false≢true h)
all_same (t ∷ ts) (u ∷ us) h = go (same t u) refl h (all_same ts us)
  where
    go : (b : Bool) → same t u ≡ b → ◌≡◌ {A = Bool} (elim b [ true ↦ same_all ts us | false ↦ false ]) true → (same_all ts us ≡ true → ts ≡ us) → t ∷ ts ≡ u ∷ us
    go true e h ih = let p = same_equal t u e in let q = ih h in cc
    go false e h ih = absurd (false≢true h)

same_all_lem : (ts : List Tree) → same_all ts ts ≡ true
unfolding same_all
same_all_lem [] = refl
same_all_lem (t ∷ ts) = simp (same_all, same_self t) (same_all_lem ts)

-- An application's words are references to smaller records, or 0.
abbrev pub Lowered : Reader → ℕ → Type 0
Lowered rd i = (lower rd i 1 ≡ rd i 1) × (lower rd i 2 ≡ rd i 2) × (lower rd i 3 ≡ rd i 3)

applied_in : (rd : Reader) (i : ℕ) → Lowered rd i → application_typed rd i ≡ true → Applied rd i
unfolding application_typed
applied_in rd i l h =
    let t : both (eqb (length (item_trees rd (rd i 2))) (rd (rd i 1) 2 + 1))
    (same_all (get_or (item_trees rd (rd i 2)) 0 leaf ∷ map type_of (item_trees rd (rd i 3)))
    (map (instance (drop 1 (item_trees rd (rd i 2)))) (signature rd (rd i 1)))) ≡ true = rw (← l.0, ← l.1, ← l.2) h in
    let p = both_parts _ _ t in
    go (item_trees rd (rd i 2)) refl (eqb-true _ _ p.0) (all_same _ _ p.1)
  where
    go : (ts : List Tree) → item_trees rd (rd i 2) ≡ ts → length ts ≡ rd (rd i 1) 2 + 1 →
        get_or ts 0 leaf ∷ map type_of (item_trees rd (rd i 3)) ≡ map (instance (drop 1 ts)) (signature rd (rd i 1)) → Applied rd i
    go [] e n f = absurd (omega arith)
    go (own ∷ σs) e n f = record { own = own; type_arguments = σs; types_are = e; parameters = omega arith; fits = f }

applied_out : (rd : Reader) (i : ℕ) → Lowered rd i → Applied rd i → application_typed rd i ≡ true
unfolding application_typed
applied_out rd i l a =
    let n : length (a.own ∷ a.type_arguments) ≡ rd (rd i 1) 2 + 1 = omega (arith, a.parameters) in
    rw (l.0, l.1, l.2, a.types_are)
    (both_join _ _ (eq-eqb _ _ n) (subst (λ (us : List Tree). same_all (a.own ∷ map type_of (item_trees rd (rd i 3))) us ≡ true) a.fits (same_all_lem _)))

-- From the test to the facts.
module _ (rd : Reader) (i : ℕ) (lowered : rd i 0 ≡ 13 → Lowered rd i) (h : is_typed rd i ≡ true) where
  tested : (k : ℕ) → rd i 0 ≡ k → typing_of k rd i ≡ true
  unfolding is_typed
  tested k e = subst (λ (k : ℕ). typing_of k rd i ≡ true) e h

  -- the kind of a record whose tree is known
  shown : (k a : ℕ) (x y z : Tree) → 0 < k → tree rd i ≡ node k a x y z → rd i 0 ≡ k
  unfolding kind_of
  shown k a x y z p e = kind_is rd i k (ap kind_of e) p

  product_in : (x y own : Tree) → tree rd i ≡ node 11 0 x y own →
      (τ : Tree) × (υ : Tree) × (type_of x ≡ setᵗ τ) × (type_of y ≡ setᵗ υ) × (own ≡ setᵗ (pairᵗ τ υ))
  unfolding typing_of if_eq product_typed first_of second_of third_of kind_of
  product_in x y own e =
      let t = ap product_typed (sym e) ∙ tested 11 (shown 11 0 x y own (omega arith) e) in
      let p = both_parts _ _ t in
      let q = both_parts _ _ p.1 in
      let m = product_made rd i (ap kind_of e) in
      let ex : x ≡ tree rd (child rd i 1) = ap first_of (sym e ∙ m) in
      let ey : y ≡ tree rd (child rd i 2) = ap second_of (sym e ∙ m) in
      let sx : type_of x ≡ setᵗ (first_of (type_of x)) = set_of rd (child rd i 1) x ex (eqb-true _ 4 p.0) in
      let sy : type_of y ≡ setᵗ (first_of (type_of y)) = set_of rd (child rd i 2) y ey (eqb-true _ 4 q.0) in
      (first_of (type_of x), first_of (type_of y), sx, sy, same_equal own _ q.1)

  powerset_in : (x own : Tree) → tree rd i ≡ node 12 0 x own leaf → (τ : Tree) × (type_of x ≡ setᵗ τ) × (own ≡ setᵗ (setᵗ τ))
  unfolding typing_of if_eq powerset_typed first_of second_of kind_of
  powerset_in x own e =
      let t = ap powerset_typed (sym e) ∙ tested 12 (shown 12 0 x own leaf (omega arith) e) in
      let p = both_parts _ _ t in
      let m = powerset_made rd i (ap kind_of e) in
      let ex : x ≡ tree rd (child rd i 1) = ap first_of (sym e ∙ m) in
      let sx : type_of x ≡ setᵗ (first_of (type_of x)) = set_of rd (child rd i 1) x ex (eqb-true _ 4 p.0) in
      (first_of (type_of x), sx, same_equal own _ p.1 ∙ ap setᵗ sx)

  pub typed_in : Typed rd i
  unfolding typing_of if_eq constant_typed function_typed pair_typed for_all_typed equal_typed member_typed choice_typed first_of second_of third_of
  typed_in = record {
    constant = λ c τ e. types_in 0 τ (ap constant_typed (sym e) ∙ tested 7 (shown 7 c τ leaf leaf (omega arith) e));
    function = λ e. every_in (types_below (rd i 2)) (TypesBelow (rd i 2)) (types_in (rd i 2)) (signature rd i) (tested 8 e);
    pair = λ x y own e. same_equal own _ (ap pair_typed (sym e) ∙ tested 10 (shown 10 0 x y own (omega arith) e));
    product = product_in;
    powerset = powerset_in;
    application = λ e. applied_in rd i (lowered e) (tested 13 e);
    universal = λ τ B e. bears_in τ 0 B (ap for_all_typed (sym e) ∙ tested 19 (shown 19 0 τ B leaf (omega arith) e));
    equation = λ t u e. same_equal _ _ (ap equal_typed (sym e) ∙ tested 20 (shown 20 0 t u leaf (omega arith) e));
    membership = λ x s e. same_equal _ _ (ap member_typed (sym e) ∙ tested 21 (shown 21 0 x s leaf (omega arith) e));
    choice = λ s τ e. same_equal _ _ (ap choice_typed (sym e) ∙ tested 23 (shown 23 0 s τ leaf (omega arith) e));
  }

-- From the facts to the test, for a record that is not 0.
module _ (rd : Reader) (i : ℕ) (pos : 0 < i) (lowered : rd i 0 ≡ 13 → Lowered rd i) (t : Typed rd i) where
  tree_kind : (k : ℕ) → rd i 0 ≡ k → kind_of (tree rd i) ≡ k
  unfolding kind_of
  tree_kind k e = rw (tree_step_lem rd i pos) e

  constant_out : rd i 0 ≡ 7 → constant_typed (tree rd i) ≡ true
  unfolding constant_typed first_of
  constant_out e = let m = constant_made rd i (tree_kind 7 e) in rw m (types_out (t.constant _ _ m))

  pair_out : rd i 0 ≡ 10 → pair_typed (tree rd i) ≡ true
  unfolding pair_typed first_of second_of third_of
  pair_out e = let m = pair_made rd i (tree_kind 10 e) in rw m (rw (t.pair _ _ _ m) (same_self _))

  product_out : rd i 0 ≡ 11 → product_typed (tree rd i) ≡ true
  product_out e =
      let m = product_made rd i (tree_kind 11 e) in
      let p = t.product _ _ _ m in
      rw m (product_fits _ _ _ p.0 p.1 p.2 p.3 p.4)

  powerset_out : rd i 0 ≡ 12 → powerset_typed (tree rd i) ≡ true
  powerset_out e =
      let m = powerset_made rd i (tree_kind 12 e) in
      let p = t.powerset _ _ m in
      rw m (powerset_fits _ _ p.0 p.1 p.2)

  universal_out : rd i 0 ≡ 19 → for_all_typed (tree rd i) ≡ true
  unfolding for_all_typed first_of second_of
  universal_out e = let m = for_all_made rd i (tree_kind 19 e) in rw m (bears_out (t.universal _ _ m))

  equation_out : rd i 0 ≡ 20 → equal_typed (tree rd i) ≡ true
  unfolding equal_typed first_of second_of
  equation_out e = let m = equal_made rd i (tree_kind 20 e) in rw m (rw (t.equation _ _ m) (same_self _))

  membership_out : rd i 0 ≡ 21 → member_typed (tree rd i) ≡ true
  unfolding member_typed first_of second_of
  membership_out e = let m = member_made rd i (tree_kind 21 e) in rw m (rw (t.membership _ _ m) (same_self _))

  choice_out : rd i 0 ≡ 23 → choice_typed (tree rd i) ≡ true
  unfolding choice_typed first_of second_of
  choice_out e = let m = choice_made rd i (tree_kind 23 e) in rw m (rw (t.choice _ _ m) (same_self _))

  -- a test by kind, both of whose outcomes pass
  passing : (k c : ℕ) (x y : Bool) → (k ≡ c → x ≡ true) → y ≡ true → if_eq k c x y ≡ true
  unfolding if_eq
  passing k c x y f g = go (eqb k c) refl
    where
      go : (b : Bool) → eqb k c ≡ b → ◌≡◌ {A = Bool} (elim b [ true ↦ x | false ↦ y ]) true
      go true e = f (eqb-true k c e)
      go false e = g

  pub typed_out : is_typed rd i ≡ true
  unfolding is_typed typing_of function_typed
  typed_out =
      passing (rd i 0) 7 _ _ constant_out
      (passing (rd i 0) 8 _ _ (λ e. every_out (types_below (rd i 2)) (TypesBelow (rd i 2)) (λ τ b. types_out b) (signature rd i) (t.function e))
      (passing (rd i 0) 10 _ _ pair_out
      (passing (rd i 0) 11 _ _ product_out
      (passing (rd i 0) 12 _ _ powerset_out
      (passing (rd i 0) 13 _ _ (λ e. applied_out rd i (lowered e) (t.application e))
      (passing (rd i 0) 19 _ _ universal_out (passing (rd i 0) 20 _ _ equation_out
      (passing (rd i 0) 21 _ _ membership_out (passing (rd i 0) 23 _ _ choice_out refl)))))))))
