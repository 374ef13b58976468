-- Types removed: the signs, replacement, unbound indices and constants, and classes of trees without types.
use Rattle.std.specs.Prelude.{ℕ, ◌+◌, ◌<◌, ◌≡◌, refl, Bool, true, false, eqb}
use Rattle.std.proofs.Common.{sym, ap, subst, ◌∙◌, arith}
use Rattle.std.proofs.lemmas.Bool.{false≢true}
use borrow.Author.Tests.{eqb-true, eqb-false, eq-eqb, ne_eqb}
use Rattle.reader.specs.Tests.{if_eq, if_lt, if_true}
use Rattle.reader.specs.Kinds.{class, role}
use Rattle.reader.specs.Trees.{Tree, leaf, node, kind_of, ⊥ᵗ, ⊤ᵗ, ◌∧ᵗ◌, ◌⇒ᵗ◌, ¬ᵗ◌, ∀ᵗ, ◌=ᵗ◌}
use Rattle.reader.specs.Variables.{binders, is_index, replaced, index_below, indices_below, is_constant, occurs}
use Rattle.reader.specs.Notions.{IsTerm, IsFormula, IndicesBelow, Occurs}
use Rattle.reader_laws.specs.NotionLaws.{indices_in, occurs_out}
use Rattle.derivation_rules.specs.Erase.{is_type, untyped, bare, ⌊◌⌋, constantᵇ, ∀ᵇ}

-- Signs.

pub erase_false : ⌊ ⊥ᵗ ⌋ ≡ ⊥ᵗ
unfolding ⌊◌⌋ bare untyped is_type role if_eq if_lt if_true
erase_false = refl

pub erase_true : ⌊ ⊤ᵗ ⌋ ≡ ¬ᵗ ⊥ᵗ
unfolding ⌊◌⌋ bare untyped is_type role if_eq if_lt if_true
erase_true = refl

pub erase_and : (P Q : Tree) → ⌊ P ∧ᵗ Q ⌋ ≡ ⌊ P ⌋ ∧ᵗ ⌊ Q ⌋
unfolding ⌊◌⌋ bare untyped is_type role if_eq if_lt if_true
erase_and P Q = refl

pub erase_implies : (P Q : Tree) → ⌊ P ⇒ᵗ Q ⌋ ≡ ⌊ P ⌋ ⇒ᵗ ⌊ Q ⌋
unfolding ⌊◌⌋ bare untyped is_type role if_eq if_lt if_true
erase_implies P Q = refl

pub erase_not : (P : Tree) → ⌊ ¬ᵗ P ⌋ ≡ ¬ᵗ ⌊ P ⌋
unfolding ⌊◌⌋ bare untyped is_type role if_eq if_lt if_true
erase_not P = refl

pub erase_all : (τ B : Tree) → ⌊ ∀ᵗ τ B ⌋ ≡ ∀ᵇ ⌊ B ⌋
unfolding ⌊◌⌋ bare untyped is_type role if_eq if_lt if_true
erase_all τ B = refl

pub erase_equal : (t u : Tree) → ⌊ t =ᵗ u ⌋ ≡ ⌊ t ⌋ =ᵗ ⌊ u ⌋
unfolding ⌊◌⌋ bare untyped is_type role if_eq if_lt if_true
erase_equal t u = refl

pub erase_constant : (c : ℕ) (τ : Tree) → ⌊ node 7 c τ leaf leaf ⌋ ≡ constantᵇ c
unfolding ⌊◌⌋ bare untyped is_type role if_eq if_lt if_true
erase_constant c τ = refl

-- index i, its type removed
pub erase_variable : (i : ℕ) (τ : Tree) → ⌊ node 9 i leaf τ leaf ⌋ ≡ node 9 i leaf leaf leaf
unfolding ⌊◌⌋ bare untyped is_type role if_eq if_lt if_true
erase_variable i τ = refl

pub erase_for_all_types : (count : ℕ) (P : Tree) → ⌊ node 22 count leaf P leaf ⌋ ≡ ⌊ P ⌋
unfolding ⌊◌⌋ bare if_eq
erase_for_all_types count P = refl

-- A node without types, in the three cases of its kind: 15, 22, another.
module _ (k a : ℕ) (x y z : Tree) where
  pub bare_true : k ≡ 15 → bare k a x y z ≡ ¬ᵗ ⊥ᵗ
  unfolding bare if_eq
  bare_true e = simp (bare, if_eq, eq-eqb k 15 e)

  pub bare_types : k ≡ 22 → bare k a x y z ≡ y
  unfolding bare if_eq
  bare_types e = let other : k ≡ 15 → ⊥ = λ q. absurd (omega arith) in simp (bare, if_eq, ne_eqb k 15 other, eq-eqb k 22 e)

  pub bare_node : (k ≡ 15 → ⊥) → (k ≡ 22 → ⊥) → bare k a x y z ≡ node k a (untyped k 1 x) (untyped k 2 y) (untyped k 3 z)
  unfolding bare if_eq
  bare_node p q = simp (bare, if_eq, ne_eqb k 15 p, ne_eqb k 22 q)

  -- a claim about a node, from the three
  pub bare_cases : (C : Tree → Type 0) → (k ≡ 15 → C (¬ᵗ ⊥ᵗ)) → (k ≡ 22 → C y) →
      ((k ≡ 15 → ⊥) → (k ≡ 22 → ⊥) → C (node k a (untyped k 1 x) (untyped k 2 y) (untyped k 3 z))) → C (bare k a x y z)
  bare_cases C f g h = go (eqb k 15) refl (eqb k 22) refl
    where
      go : (b : Bool) → eqb k 15 ≡ b → (c : Bool) → eqb k 22 ≡ c → C (bare k a x y z)
      go true e c q = subst C (sym (bare_true (eqb-true k 15 e))) (f (eqb-true k 15 e))
      go false e true q = subst C (sym (bare_types (eqb-true k 22 q))) (g (eqb-true k 22 q))
      go false e false q = subst C (sym (bare_node (eqb-false k 15 e) (eqb-false k 22 q))) (h (eqb-false k 15 e) (eqb-false k 22 q))

-- a word's tree, which is removed or kept
untyped_cases : (k w : ℕ) (t : Tree) (C : Tree → Type 0) → C leaf → C t → C (untyped k w t)
unfolding untyped if_true
untyped_cases k w t C p q = go (is_type k w) refl
  where
    go : (b : Bool) → is_type k w ≡ b → C (untyped k w t)
    go true e = subst C (sym (ap (λ (b : Bool). if_true b leaf t) e)) p
    go false e = subst C (sym (ap (λ (b : Bool). if_true b leaf t) e)) q

-- The unbound indices of a tree without types are below d where those of the tree are; its constants are constants of the tree.

-- ¬⊥ has no index
no_index : (d : ℕ) → IndicesBelow d (¬ᵗ ⊥ᵗ)
unfolding indices_below index_below
no_index d = indices_in d (¬ᵗ ⊥ᵗ) refl

-- a node whose parts without types are u, v, w
indices_node : (d k a : ℕ) (u v w : Tree) → (k ≡ 9 → a < d) → IndicesBelow d u → IndicesBelow (d + binders k) v → IndicesBelow d w →
    IndicesBelow d (bare k a u v w)
unfolding binders
indices_node d k a u v w own p q r = bare_cases k a u v w (IndicesBelow d) (λ e. no_index d) for_all_types (λ m n. other)
  where
    for_all_types : k ≡ 22 → IndicesBelow d v
    for_all_types e =
        let none : binders k ≡ 0 = ap binders e in
        let same : d + binders k ≡ d = omega arith in
        subst (λ (j : ℕ). IndicesBelow j v) same q

    other : IndicesBelow d (node k a (untyped k 1 u) (untyped k 2 v) (untyped k 3 w))
    other =
        IndicesBelow.inside own (untyped_cases k 1 u (IndicesBelow d) IndicesBelow.none p)
        (untyped_cases k 2 v (IndicesBelow (d + binders k)) IndicesBelow.none q) (untyped_cases k 3 w (IndicesBelow d) IndicesBelow.none r)

-- so a closed tree stays closed, and one that is open in index 0 at most stays so
pub indices_erase : {d : ℕ} {t : Tree} → IndicesBelow d t → IndicesBelow d ⌊ t ⌋
unfolding ⌊◌⌋
indices_erase IndicesBelow.none = IndicesBelow.none
indices_erase (IndicesBelow.inside {d = d} {k = k} {a = a} {x = x} {y = y} {z = z} own p q r) =
    indices_node d k a ⌊ x ⌋ ⌊ y ⌋ ⌊ z ⌋ own (indices_erase p) (indices_erase q) (indices_erase r)

no_constant : (t : Tree) (c : ℕ) → occurs c t ≡ false → Occurs c t → ⊥
no_constant t c h o = false≢true (sym h ∙ occurs_out o)

-- a node with the parts x, y, z, whose parts without types are u, v, w
occurs_node : (c k a : ℕ) (x y z u v w : Tree) → (Occurs c u → Occurs c x) → (Occurs c v → Occurs c y) → (Occurs c w → Occurs c z) →
    Occurs c (bare k a u v w) → Occurs c (node k a x y z)
unfolding occurs is_constant
occurs_node c k a x y z u v w ox oy oz o =
    bare_cases k a u v w (λ t. Occurs c t → Occurs c (node k a x y z)) (λ e o. absurd (no_constant (¬ᵗ ⊥ᵗ) c refl o)) (λ e o. Occurs.second (oy o))
    (λ p q. other) o
  where
    none : (t : Tree) → Occurs c leaf → Occurs c t
    none t o = absurd (no_constant leaf c refl o)

    other : Occurs c (node k a (untyped k 1 u) (untyped k 2 v) (untyped k 3 w)) → Occurs c (node k a x y z)
    other (Occurs.itself p q) = Occurs.itself p q
    other (Occurs.first o) = Occurs.first (untyped_cases k 1 u (λ t. Occurs c t → Occurs c x) (none x) ox o)
    other (Occurs.second o) = Occurs.second (untyped_cases k 2 v (λ t. Occurs c t → Occurs c y) (none y) oy o)
    other (Occurs.third o) = Occurs.third (untyped_cases k 3 w (λ t. Occurs c t → Occurs c z) (none z) oz o)

pub occurs_erase : (c : ℕ) (t : Tree) → Occurs c ⌊ t ⌋ → Occurs c t
unfolding ⌊◌⌋
occurs_erase c leaf o = o
occurs_erase c (node k a x y z) o = occurs_node c k a x y z ⌊ x ⌋ ⌊ y ⌋ ⌊ z ⌋ (occurs_erase c x) (occurs_erase c y) (occurs_erase c z) o

-- Replacement.

replaced_node : (d k a : ℕ) (t x y z : Tree) → is_index k a d ≡ false →
    replaced d t (node k a x y z) ≡ node k a (replaced d t x) (replaced (d + binders k) t y) (replaced d t z)
unfolding replaced
replaced_node d k a t x y z e = simp (replaced, e)

replaced_here : (d k a : ℕ) (t x y z : Tree) → is_index k a d ≡ true → replaced d t (node k a x y z) ≡ t
unfolding replaced
replaced_here d k a t x y z e = simp (replaced, e)

untyped_replaced : (k w d : ℕ) (t x : Tree) → untyped k w (replaced d t x) ≡ replaced d t (untyped k w x)
unfolding untyped if_true replaced
untyped_replaced k w d t x = go (is_type k w)
  where
    go : (b : Bool) → ◌≡◌ {A = Tree} (if_true b leaf (replaced d t x)) (replaced d t (if_true b leaf x))
    go true = refl
    go false = refl

-- a node whose own index is not replaced
bare_replaced : (d k a : ℕ) (t x y z : Tree) → is_index k a d ≡ false →
    bare k a (replaced d t x) (replaced (d + binders k) t y) (replaced d t z) ≡ replaced d t (bare k a x y z)
unfolding replaced is_index binders
bare_replaced d k a t x y z e =
    bare_cases k a x y z (λ u. bare k a (replaced d t x) (replaced (d + binders k) t y) (replaced d t z) ≡ replaced d t u)
    (λ q. bare_true k a _ _ _ q)
    (λ q.
    let none : binders k ≡ 0 = ap binders q in
    let same : d + binders k ≡ d = omega arith in
    bare_types k a _ _ _ q ∙ ap (λ (j : ℕ). replaced j t y) same)
    (λ p q.
    let first = untyped_replaced k 1 d t x in
    let second = untyped_replaced k 2 (d + binders k) t y in
    let third = untyped_replaced k 3 d t z in
    let there = replaced_node d k a t (untyped k 1 x) (untyped k 2 y) (untyped k 3 z) e in
    let here = bare_node k a (replaced d t x) (replaced (d + binders k) t y) (replaced d t z) p q in
    cc)

-- a node whose own index is replaced
index_kind : (k a d : ℕ) → is_index k a d ≡ true → k ≡ 9
unfolding is_index
index_kind k a d e = go (eqb k 9) refl
  where
    go : (b : Bool) → eqb k 9 ≡ b → k ≡ 9
    go true q = eqb-true k 9 q
    go false q = absurd (false≢true (simp (is_index, q) at e))

bare_index : (d k a : ℕ) (t x y z : Tree) → is_index k a d ≡ true → replaced d t (bare k a x y z) ≡ t
bare_index d k a t x y z e =
    let kind : k ≡ 9 = index_kind k a d e in
    bare_cases k a x y z (λ u. replaced d t u ≡ t) (λ q. absurd (omega arith)) (λ q. absurd (omega arith))
    (λ p q. replaced_here d k a t (untyped k 1 x) (untyped k 2 y) (untyped k 3 z) e)

replaced_step : (d k a : ℕ) (t x y z : Tree) → ⌊ replaced d t x ⌋ ≡ replaced d ⌊ t ⌋ ⌊ x ⌋ →
    ⌊ replaced (d + binders k) t y ⌋ ≡ replaced (d + binders k) ⌊ t ⌋ ⌊ y ⌋ → ⌊ replaced d t z ⌋ ≡ replaced d ⌊ t ⌋ ⌊ z ⌋ →
    ⌊ replaced d t (node k a x y z) ⌋ ≡ replaced d ⌊ t ⌋ (bare k a ⌊ x ⌋ ⌊ y ⌋ ⌊ z ⌋)
unfolding ⌊◌⌋
replaced_step d k a t x y z first second third = go (is_index k a d) refl
  where
    go : (b : Bool) → is_index k a d ≡ b → ⌊ replaced d t (node k a x y z) ⌋ ≡ replaced d ⌊ t ⌋ (bare k a ⌊ x ⌋ ⌊ y ⌋ ⌊ z ⌋)
    go true e = ap (λ (u : Tree). ⌊ u ⌋) (replaced_here d k a t x y z e) ∙ sym (bare_index d k a ⌊ t ⌋ ⌊ x ⌋ ⌊ y ⌋ ⌊ z ⌋ e)
    go false e =
        let parts : bare k a ⌊ replaced d t x ⌋ ⌊ replaced (d + binders k) t y ⌋ ⌊ replaced d t z ⌋
        ≡ bare k a (replaced d ⌊ t ⌋ ⌊ x ⌋) (replaced (d + binders k) ⌊ t ⌋ ⌊ y ⌋) (replaced d ⌊ t ⌋ ⌊ z ⌋) = cc in
        ap (λ (u : Tree). ⌊ u ⌋) (replaced_node d k a t x y z e) ∙ parts ∙ bare_replaced d k a ⌊ t ⌋ ⌊ x ⌋ ⌊ y ⌋ ⌊ z ⌋ e

-- B(t) without types is B without types, with t without types in place of index 0
pub replaced_erase : (d : ℕ) (t B : Tree) → ⌊ replaced d t B ⌋ ≡ replaced d ⌊ t ⌋ ⌊ B ⌋
unfolding ⌊◌⌋ replaced
replaced_erase d t leaf = refl
replaced_erase d t (node k a x y z) =
    replaced_step d k a t x y z (replaced_erase d t x) (replaced_erase (d + binders k) t y) (replaced_erase d t z)

-- Classes.

class_erase : (c : ℕ) (t : Tree) → class (kind_of t) ≡ c → (c ≡ 7 → ⊥) → class (kind_of ⌊ t ⌋) ≡ c
unfolding ⌊◌⌋ kind_of class if_lt
class_erase c leaf h p = h
class_erase c (node k a x y z) h p =
    bare_cases k a ⌊ x ⌋ ⌊ y ⌋ ⌊ z ⌋ (λ u. class (kind_of u) ≡ c)
    (λ e. ap class (sym e) ∙ h)
    (λ e. absurd (p (sym h ∙ ap class e)))
    (λ q r. h)

pub formula_erase : (t : Tree) → IsFormula t → IsFormula ⌊ t ⌋
formula_erase t h = class_erase 5 t h (λ q. absurd (omega arith))

pub term_erase : (t : Tree) → IsTerm t → IsTerm ⌊ t ⌋
term_erase t h = class_erase 4 t h (λ q. absurd (omega arith))
