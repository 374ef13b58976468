-- How far the variables of a tree reach, its type variables or else its indices: the least d such that every variable is below d or bound in the tree.
-- Closedness is a comparison with it.
use Rattle.std.specs.Prelude.{ℕ, ◌+◌, ◌-◌, ◌≤◌, ◌≡◌, refl, Bool, true, false, eqb, ltb, leb}
use Rattle.std.proofs.Common.{sym, ap, ◌∙◌, arith, ltb-true, ltb-false, leb-true, leb-false, le-leb, ne_eqb}
use Rattle.std.proofs.lemmas.Bool.{false≢true, lt-leb}
use Rattle.reader.specs.Tests.{both, if_eq, if_lt, if_true}
use Rattle.reader.specs.Trees.{Tree, leaf, node, same}
use Rattle.reader.specs.Variables.{binders, is_index, replaced, bears, index_below, indices_below, type_variable_below, types_below}

-- the larger of two numbers
unfoldable pub larger : ℕ → ℕ → ℕ
larger a b = if_lt a b b a

-- the kind of a variable
unfoldable pub variable : Bool → ℕ
variable types = if_true types 6 9

-- how many of them a node of kind k binds in its second part
unfoldable pub crossed : Bool → ℕ → ℕ
crossed types k = if_true types 0 (binders k)

-- a node of kind k and atom a, for itself
unfoldable pub own_reach : Bool → ℕ → ℕ → ℕ
own_reach types k a = if_eq k (variable types) (a + 1) 0

unfoldable pub reach : Bool → Tree → ℕ
reach types leaf = 0
reach types (node k a x y z) = larger (own_reach types k a) (larger (reach types x) (larger (reach types y - crossed types k) (reach types z)))

-- two comparisons that say the same
leb_as : (a b c d : ℕ) → (a ≤ b → c ≤ d) → (c ≤ d → a ≤ b) → leb a b ≡ leb c d
leb_as a b c d to from = go (leb a b) refl (leb c d) refl
  where
    go : (s : Bool) → leb a b ≡ s → (t : Bool) → leb c d ≡ t → s ≡ t
    go true p true q = refl
    go true p false q = absurd (omega (arith, to (leb-true a b p), leb-false c d q))
    go false p true q = absurd (omega (arith, from (leb-true c d q), leb-false a b p))
    go false p false q = refl

larger_leb : (a b d : ℕ) → leb (larger a b) d ≡ both (leb a d) (leb b d)
unfolding larger if_lt both
larger_leb a b d = go (ltb a b) refl (leb a d) refl (leb b d) refl
  where
    go : (s : Bool) → ltb a b ≡ s → (p : Bool) → leb a d ≡ p → (q : Bool) → leb b d ≡ q → leb (elim s as (λ x. ℕ) [ true ↦ b | false ↦ a ]) d ≡ both p q
    go true s true ea q eb = eb
    go true s false ea true eb = absurd (omega (arith, ltb-true a b s, leb-false a d ea, leb-true b d eb))
    go true s false ea false eb = eb
    go false s true ea true eb = ea
    go false s true ea false eb = absurd (omega (arith, ltb-false a b s, leb-true a d ea, leb-false b d eb))
    go false s false ea q eb = ea

-- a variable below d, for a kind v of variables
own_leb : (v k a d : ℕ) → elim (eqb k v) as (λ x. Bool) [ true ↦ ltb a d | false ↦ true ] ≡ leb (if_eq k v (a + 1) 0) d
unfolding if_eq
own_leb v k a d = go (eqb k v)
  where
    less : (b : Bool) → ltb a d ≡ b → b ≡ leb (a + 1) d
    less true e = sym (le-leb (a + 1) d (omega (arith, ltb-true a d e)))
    less false e = sym (lt-leb (a + 1) d (omega (arith, ltb-false a d e)))

    go : (b : Bool) → elim b as (λ x. Bool) [ true ↦ ltb a d | false ↦ true ] ≡ leb (elim b as (λ x. ℕ) [ true ↦ a + 1 | false ↦ 0 ]) d
    go true = less (ltb a d) refl
    go false = sym (le-leb 0 d (omega arith))

own_index : (k a d : ℕ) → index_below k a d ≡ leb (own_reach false k a) d
unfolding index_below own_reach variable if_true
own_index k a d = own_leb 9 k a d

own_type : (k a p : ℕ) → type_variable_below k a p ≡ leb (own_reach true k a) p
unfolding type_variable_below own_reach variable if_true
own_type k a p = own_leb 6 k a p

-- indices below d, and type variables below p, as one step
indices_both : (d k a : ℕ) (x y z : Tree) →
    indices_below d (node k a x y z) ≡ both (index_below k a d) (both (indices_below d x) (both (indices_below (d + binders k) y) (indices_below d z)))
unfolding indices_below both
indices_both d k a x y z = refl

types_both : (p k a : ℕ) (x y z : Tree) →
    types_below p (node k a x y z) ≡ both (type_variable_below k a p) (both (types_below p x) (both (types_below p y) (types_below p z)))
unfolding types_below both
types_both p k a x y z = refl

-- the reach of a node, within d
node_leb : (types : Bool) (k a d : ℕ) (x y z : Tree) → leb (reach types (node k a x y z)) d ≡
    both (leb (own_reach types k a) d) (both (leb (reach types x) d) (both (leb (reach types y) (d + crossed types k)) (leb (reach types z) d)))
unfolding reach
node_leb types k a d x y z =
    let under : leb (reach types y - crossed types k) d ≡ leb (reach types y) (d + crossed types k) =
    leb_as (reach types y - crossed types k) d (reach types y) (d + crossed types k) (λ h. omega arith) (λ h. omega arith) in
    rw (larger_leb, larger_leb, larger_leb, under) refl

pub indices_reach : (d : ℕ) (t : Tree) → indices_below d t ≡ leb (reach false t) d
unfolding indices_below reach crossed if_true
indices_reach d leaf = sym (le-leb 0 d (omega arith))
indices_reach d (node k a x y z) =
    rw (indices_both d k a x y z, own_index k a d, indices_reach d x, indices_reach (d + binders k) y, indices_reach d z) (sym (node_leb false k a d x y z))

pub types_reach : (p : ℕ) (t : Tree) → types_below p t ≡ leb (reach true t) p
unfolding types_below reach crossed if_true
types_reach p leaf = sym (le-leb 0 p (omega arith))
types_reach p (node k a x y z) =
    let none : p ≡ p + 0 = omega arith in
    let second : types_below p y ≡ leb (reach true y) (p + 0) = types_reach p y ∙ ap (λ (q : ℕ). leb (reach true y) q) none in
    rw (types_both p k a x y z, own_type k a p, types_reach p x, second, types_reach p z) (sym (node_leb true k a p x y z))

-- "no unbound index" from d on: there is nothing to replace
both_in : (a b : Bool) → both a b ≡ true → (a ≡ true) × (b ≡ true)
unfolding both
both_in true b h = (refl, h)
both_in false b h = absurd (false≢true h)

bound_index : (k a d : ℕ) → index_below k a d ≡ true → is_index k a d ≡ false
unfolding index_below is_index
bound_index k a d = go (eqb k 9)
  where
    go : (b : Bool) → elim b as (λ x. Bool) [ true ↦ ltb a d | false ↦ true ] ≡ true → elim b as (λ x. Bool) [ true ↦ eqb a d | false ↦ false ] ≡ false
    go true h = ne_eqb a d (λ e. omega (arith, ltb-true a d h))
    go false h = refl

pub replaced_node : (d : ℕ) (t : Tree) (k a : ℕ) (x y z : Tree) → replaced d t (node k a x y z) ≡
    elim (is_index k a d) [ true ↦ t | false ↦ node k a (replaced d t x) (replaced (d + binders k) t y) (replaced d t z) ]
unfolding replaced
replaced_node d t k a x y z = refl

pub replaced_closed : (d : ℕ) (t s : Tree) → indices_below d s ≡ true → replaced d t s ≡ s
unfolding replaced
replaced_closed d t leaf h = refl
replaced_closed d t (node k a x y z) h =
    let p = both_in _ _ (rw (indices_both d k a x y z) at h) in
    let q = both_in _ _ p.1 in
    let r = both_in _ _ q.1 in
    rw (replaced_node d t k a x y z)
    (simp (bound_index k a d p.0, replaced_closed d t x q.0, replaced_closed (d + binders k) t y r.0, replaced_closed d t z r.1))

-- and no place of index d, whatever its type
pub bears_node : (d : ℕ) (τ : Tree) (k a : ℕ) (x y z : Tree) → bears d τ (node k a x y z) ≡
    if_true (is_index k a d) (same y τ) (both (bears d τ x) (both (bears (d + binders k) τ y) (bears d τ z)))
unfolding bears both if_true
bears_node d τ k a x y z = refl

pub bears_closed : (d : ℕ) (τ s : Tree) → indices_below d s ≡ true → bears d τ s ≡ true
unfolding bears both if_true
bears_closed d τ leaf h = refl
bears_closed d τ (node k a x y z) h =
    let p = both_in _ _ (rw (indices_both d k a x y z) at h) in
    let q = both_in _ _ p.1 in
    let r = both_in _ _ q.1 in
    rw (bears_node d τ k a x y z)
    (simp (both, if_true, bound_index k a d p.0, bears_closed d τ x q.0, bears_closed (d + binders k) τ y r.0, bears_closed d τ z r.1))
