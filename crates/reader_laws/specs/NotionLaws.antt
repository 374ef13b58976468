-- Each proposition of the reader's `Notions` holds exactly where the test of the same name passes.
use Rattle.std.specs.Prelude.{ℕ, ◌+◌, ◌<◌, ◌≡◌, Bool, true, false, not, eqb, ltb}
use Rattle.std.proofs.Math.Path.{refl}
use Rattle.std.proofs.Common.{sym, ◌∙◌, eq-eqb, eqb-true, lt-ltb, ltb-true}
use mathlib.Core.List.{List, [], ◌∷◌}
use Rattle.std.proofs.lemmas.Bool.{false≢true, not-true}
use Rattle.reader.specs.Tests.{both, either, every, if_true}
use Rattle.reader.specs.Trees.{Tree, leaf, node, same}
use Rattle.reader.specs.Variables.{binders, is_index, bears, index_below, indices_below, type_variable_below, types_below, is_closed, is_constant, occurs}
use Rattle.reader.specs.TreeLaws.{same_equal, same_self}
use Rattle.reader_laws.specs.Scan.{both_parts, both_join, either_parts, every_head, when_true, when_false}
use Rattle.reader.specs.Members.{member, is_fresh}
use Rattle.reader.specs.Notions.{◌∈◌, here, there, Every, IndicesBelow, TypesBelow, Closed, Bears, Occurs, Fresh}

-- Elements of lists.
module _ {A : Type 0} (Q : A → Type 0) where
  pub every_0 : Every Q []
  every_0 x m = elim m [ ]

  pub every_more : (x : A) (xs : List A) → Q x → Every Q xs → Every Q (x ∷ xs)
  every_more x xs q qs y (here e) = rw e q
  every_more x xs q qs y (there m) = qs y m

  pub every_1 : (x : A) → Q x → Every Q (x ∷ [])
  every_1 x q = every_more x [] q every_0

  pub every_2 : (x y : A) → Q x → Q y → Every Q (x ∷ y ∷ [])
  every_2 x y p q = every_more x (y ∷ []) p (every_1 y q)

-- a test that every element passes, against a proposition that holds where it passes
module _ {A : Type 0} (test : A → Bool) (Q : A → Type 0) where
  pub every_in : ((x : A) → test x ≡ true → Q x) → (xs : List A) → every test xs ≡ true → Every Q xs
  every_in f [] h = every_0 Q
  every_in f (x ∷ xs) h = let p = every_head test x xs h in every_more Q x xs (f x p.0) (every_in f xs p.1)

  pub every_out : ((x : A) → Q x → test x ≡ true) → (xs : List A) → Every Q xs → every test xs ≡ true
  unfolding every
  every_out f [] h = refl
  every_out f (x ∷ xs) h = simp (every, f x (h x (here refl))) (every_out f xs (λ y m. h y (there m)))

-- members
pub member_in : (t : Tree) (Γ : List Tree) → member t Γ ≡ true → t ∈ Γ
unfolding member
member_in t [] h = absurd (false≢true h)
member_in t (u ∷ us) h = go (same u t) refl (member_in t us) h
  where
    go : (b : Bool) → same u t ≡ b → (member t us ≡ true → t ∈ us) → ◌≡◌ {A = Bool} (elim b [ true ↦ true | false ↦ member t us ]) true → t ∈ (u ∷ us)
    go true e ih h = here (sym (same_equal u t e))
    go false e ih h = there (ih h)

pub member_out : (t : Tree) (Γ : List Tree) → t ∈ Γ → member t Γ ≡ true
unfolding member
member_out t [] x' = elim x' [ ]
member_out t (u ∷ us) (here e) = simp (member, ← e, same_self t)
member_out t (u ∷ us) (there m) = go (same u t) (member_out t us m)
  where
    go : (b : Bool) → member t us ≡ true → ◌≡◌ {A = Bool} (elim b [ true ↦ true | false ↦ member t us ]) true
    go true ih = refl
    go false ih = ih

-- a test `if k is c then the number fits`
below_in : (k c a d : ℕ) → ◌≡◌ {A = Bool} (elim (eqb k c) [ true ↦ ltb a d | false ↦ true ]) true → k ≡ c → a < d
below_in k c a d h e = ltb-true a d (simp (eq-eqb k c e) at h)

below_out : (k c a d : ℕ) → (k ≡ c → a < d) → ◌≡◌ {A = Bool} (elim (eqb k c) [ true ↦ ltb a d | false ↦ true ]) true
below_out k c a d h = go (eqb k c) refl
  where
    go : (b : Bool) → eqb k c ≡ b → ◌≡◌ {A = Bool} (elim b [ true ↦ ltb a d | false ↦ true ]) true
    go true e = lt-ltb a d (h (eqb-true k c e))
    go false e = refl

-- unbound indices
indices_both : (d k a : ℕ) (x y z : Tree) →
    indices_below d (node k a x y z) ≡ both (index_below k a d) (both (indices_below d x) (both (indices_below (d + binders k) y) (indices_below d z)))
unfolding indices_below both
indices_both d k a x y z = refl

pub indices_in : (d : ℕ) (t : Tree) → indices_below d t ≡ true → IndicesBelow d t
unfolding index_below
indices_in d leaf h = IndicesBelow.none
indices_in d (node k a x y z) h =
    let p = both_parts _ _ (rw indices_both at h) in
    let q = both_parts _ _ p.1 in
    let r = both_parts _ _ q.1 in
    IndicesBelow.inside (below_in k 9 a d p.0) (indices_in d x q.0) (indices_in (d + binders k) y r.0) (indices_in d z r.1)

pub indices_out : {d : ℕ} {t : Tree} → IndicesBelow d t → indices_below d t ≡ true
unfolding index_below indices_below
indices_out IndicesBelow.none = refl
indices_out (IndicesBelow.inside {d = d} {k = k} {a = a} {x = x} {y = y} {z = z} i p q r) =
    indices_both d k a x y z
    ∙ both_join _ _ (below_out k 9 a d i) (both_join _ _ (indices_out p) (both_join _ _ (indices_out q) (indices_out r)))

-- type variables
types_both : (p k a : ℕ) (x y z : Tree) →
    types_below p (node k a x y z) ≡ both (type_variable_below k a p) (both (types_below p x) (both (types_below p y) (types_below p z)))
unfolding types_below both
types_both p k a x y z = refl

pub types_in : (p : ℕ) (t : Tree) → types_below p t ≡ true → TypesBelow p t
unfolding type_variable_below
types_in p leaf h = TypesBelow.none
types_in p (node k a x y z) h =
    let e = both_parts _ _ (rw types_both at h) in
    let q = both_parts _ _ e.1 in
    let r = both_parts _ _ q.1 in
    TypesBelow.inside (below_in k 6 a p e.0) (types_in p x q.0) (types_in p y r.0) (types_in p z r.1)

pub types_out : {p : ℕ} {t : Tree} → TypesBelow p t → types_below p t ≡ true
unfolding type_variable_below types_below
types_out TypesBelow.none = refl
types_out {p} (TypesBelow.inside {k = k} {a = a} {x = x} {y = y} {z = z} i e q r) =
    types_both p k a x y z
    ∙ both_join _ _ (below_out k 6 a p i) (both_join _ _ (types_out e) (both_join _ _ (types_out q) (types_out r)))

-- closedness
pub closed_in : (t : Tree) → is_closed t ≡ true → Closed t
unfolding is_closed
closed_in t h = let p = both_parts _ _ h in record { no_index = indices_in 0 t p.0; no_type_variable = types_in 0 t p.1 }

pub closed_out : (t : Tree) → Closed t → is_closed t ≡ true
unfolding is_closed
closed_out t c = both_join _ _ (indices_out c.no_index) (types_out c.no_type_variable)

-- a test of two numbers
two_in : (k c a d : ℕ) → ◌≡◌ {A = Bool} (elim (eqb k c) [ true ↦ eqb a d | false ↦ false ]) true → (k ≡ c) × (a ≡ d)
two_in k c a d h = go (eqb k c) refl h
  where
    go : (b : Bool) → eqb k c ≡ b → ◌≡◌ {A = Bool} (elim b [ true ↦ eqb a d | false ↦ false ]) true → (k ≡ c) × (a ≡ d)
    go true e h = (eqb-true k c e, eqb-true a d h)
    go false e h = absurd (false≢true h)

two_out : (k c a d : ℕ) → k ≡ c → a ≡ d → ◌≡◌ {A = Bool} (elim (eqb k c) [ true ↦ eqb a d | false ↦ false ]) true
two_out k c a d p q = simp (eq-eqb k c p, eq-eqb a d q)

-- a test that passes only where something absurd holds
pub not_so : (b : Bool) → (b ≡ true → ⊥) → b ≡ false
not_so true h = absurd (h refl)
not_so false h = refl

-- one of two tests
pub either_first : (a b : Bool) → a ≡ true → either a b ≡ true
unfolding either
either_first a b p = simp (either, p)

pub either_second : (a b : Bool) → b ≡ true → either a b ≡ true
unfolding either
either_second true b p = refl
either_second false b p = p

-- what is not so where a test failed
pub failed : {A : Type 0} (b : Bool) → b ≡ false → b ≡ true → A
failed b p q = absurd (false≢true (sym p ∙ q))

-- types of places
bears_both : (τ : Tree) (d k a : ℕ) (x y z : Tree) →
    bears d τ (node k a x y z) ≡ if_true (is_index k a d) (same y τ) (both (bears d τ x) (both (bears (d + binders k) τ y) (bears d τ z)))
unfolding bears both if_true
bears_both τ d k a x y z = refl

pub bears_in : (τ : Tree) (d : ℕ) (t : Tree) → bears d τ t ≡ true → Bears τ d t
unfolding is_index
bears_in τ d leaf h = Bears.none
bears_in τ d (node k a x y z) h =
    go (is_index k a d) refl (sym (bears_both τ d k a x y z) ∙ h) (bears_in τ d x) (bears_in τ (d + binders k) y) (bears_in τ d z)
  where
    go : (b : Bool) → is_index k a d ≡ b → if_true b (same y τ) (both (bears d τ x) (both (bears (d + binders k) τ y) (bears d τ z))) ≡ true →
        (bears d τ x ≡ true → Bears τ d x) → (bears (d + binders k) τ y ≡ true → Bears τ (d + binders k) y) → (bears d τ z ≡ true → Bears τ d z) →
        Bears τ d (node k a x y z)
    go true e h p q r = let i = two_in k 9 a d e in Bears.place i.0 i.1 (same_equal y τ (sym (when_true _ _ true refl) ∙ h))
    go false e h p q r =
        let u = both_parts _ _ (sym (when_false _ _ false refl) ∙ h) in
        let v = both_parts _ _ u.1 in
        Bears.inside (λ f g. failed (is_index k a d) e (two_out k 9 a d f g)) (p u.0) (q v.0) (r v.1)

pub bears_out : {τ : Tree} {d : ℕ} {t : Tree} → Bears τ d t → bears d τ t ≡ true
unfolding bears is_index
bears_out Bears.none = refl
bears_out {τ} (Bears.place {d = d} {k = k} {a = a} {x = x} {y = y} {z = z} p q e) =
    bears_both τ d k a x y z ∙ when_true _ _ (is_index k a d) (two_out k 9 a d p q) ∙ (rw e (same_self τ))
bears_out {τ} (Bears.inside {d = d} {k = k} {a = a} {x = x} {y = y} {z = z} i p q r) =
    bears_both τ d k a x y z ∙ when_false _ _ (is_index k a d) (not_so (is_index k a d) (λ h. let j = two_in k 9 a d h in i j.0 j.1))
    ∙ both_join _ _ (bears_out p) (both_join _ _ (bears_out q) (bears_out r))

-- occurrence
occurs_either : (c k a : ℕ) (x y z : Tree) →
    occurs c (node k a x y z) ≡ either (is_constant k a c) (either (occurs c x) (either (occurs c y) (occurs c z)))
unfolding occurs either
occurs_either c k a x y z = refl

pub occurs_in : (c : ℕ) (t : Tree) → occurs c t ≡ true → Occurs c t
unfolding occurs is_constant
occurs_in c leaf h = absurd (false≢true h)
occurs_in c (node k a x y z) h =
    either_parts (is_constant k a c) _ (sym (occurs_either c k a x y z) ∙ h) (λ e. let i = two_in k 7 a c e in Occurs.itself i.0 i.1)
    (λ h. either_parts (occurs c x) _ h (λ e. Occurs.first (occurs_in c x e))
    (λ h. either_parts (occurs c y) _ h (λ e. Occurs.second (occurs_in c y e)) (λ e. Occurs.third (occurs_in c z e))))

pub occurs_out : {c : ℕ} {t : Tree} → Occurs c t → occurs c t ≡ true
unfolding is_constant
occurs_out {c} (Occurs.itself {k = k} {a = a} {x = x} {y = y} {z = z} p q) =
    occurs_either c k a x y z ∙ either_first (is_constant k a c) _ (two_out k 7 a c p q)
occurs_out {c} (Occurs.first {k = k} {a = a} {x = x} {y = y} {z = z} h) =
    occurs_either c k a x y z ∙ either_second (is_constant k a c) _ (either_first (occurs c x) _ (occurs_out h))
occurs_out {c} (Occurs.second {k = k} {a = a} {x = x} {y = y} {z = z} h) =
    occurs_either c k a x y z
    ∙ either_second (is_constant k a c) _ (either_second (occurs c x) _ (either_first (occurs c y) _ (occurs_out h)))
occurs_out {c} (Occurs.third {k = k} {a = a} {x = x} {y = y} {z = z} h) =
    occurs_either c k a x y z
    ∙ either_second (is_constant k a c) _ (either_second (occurs c x) _ (either_second (occurs c y) _ (occurs_out h)))

-- freshness
pub fresh_in : (c : ℕ) (Γ : List Tree) → is_fresh Γ c ≡ true → Fresh c Γ
unfolding is_fresh
fresh_in c Γ h = every_in (λ t. not (occurs c t)) (λ t. Occurs c t → ⊥) (λ t e o. failed (occurs c t) (not-true (occurs c t) e) (occurs_out o)) Γ h

pub fresh_out : (c : ℕ) (Γ : List Tree) → Fresh c Γ → is_fresh Γ c ≡ true
unfolding is_fresh
fresh_out c Γ f =
    every_out (λ t. not (occurs c t)) (λ t. Occurs c t → ⊥) (λ t no. rw (not_so (occurs c t) (λ h. no (occurs_in c t h)))) Γ f
