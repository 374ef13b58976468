-- Unfolding laws of the definitions by recursion on record numbers, and equality of trees. Later proofs use these and never the recursion itself.
use Rattle.std.specs.Prelude.{ℕ, zero, suc, ◌<◌, ◌≡◌, refl, List, [], ◌∷◌, Bool, true, false, eqb, ltb}
use Rattle.std.proofs.Common.{sym, ◌∙◌, arith, ltb-true, eqb-true, eq-eqb}
use Rattle.std.proofs.lemmas.Bool.{false≢true}
use Rattle.reader.specs.Words.{Reader}
use Rattle.reader.specs.DownLaws.{Local, down_zero, down_step}
use Rattle.reader.specs.Tests.{both, if_lt}
use Rattle.reader.specs.Kinds.{role_at}
use Rattle.reader.specs.Trees.{Tree, leaf, node, lower, child, atom, tree_step, tree, same_head, same}
use Rattle.reader.specs.Chains.{linked_step, linked, items}

-- a claim about all numbers, from the smaller ones
pub below : (P : ℕ → Type 0) → ((n : ℕ) → ((j : ℕ) → j < n → P j) → P n) → (n : ℕ) → P n
below P f n = f n (go n)
  where
    go : (n j : ℕ) → j < n → P j
    go zero j h = absurd (omega arith)
    go (suc n) j h = f j (λ i q. go n i (omega arith))

-- a reference is to a smaller record
pub lower_below : (rd : Reader) (i w : ℕ) → 0 < i → lower rd i w < i
unfolding lower if_lt
lower_below rd i w h = go (ltb (rd i w) i) refl
  where
    go : (b : Bool) → ltb (rd i w) i ≡ b → elim b as (λ x. ℕ) [ true ↦ rd i w | false ↦ 0 ] < i
    go true e = ltb-true (rd i w) i e
    go false e = h

pub child_below : (rd : Reader) (i w : ℕ) → 0 < i → child rd i w < i
unfolding child if_lt
child_below rd i w h = go (ltb (role_at rd i w) 10)
  where
    go : (b : Bool) → elim b as (λ x. ℕ) [ true ↦ 0 | false ↦ lower rd i w ] < i
    go true = h
    go false = lower_below rd i w h

tree_local : (rd : Reader) → Local (tree_step rd)
unfolding tree_step
tree_local rd f g i p h = rw (h _ (child_below rd i 1 p), h _ (child_below rd i 2 p), h _ (child_below rd i 3 p))

-- the tree of a record that is not 0
pub tree_step_lem : (rd : Reader) (i : ℕ) → 0 < i →
    tree rd i ≡ node (rd i 0) (atom rd i) (tree rd (child rd i 1)) (tree rd (child rd i 2)) (tree rd (child rd i 3))
unfolding tree tree_step
tree_step_lem rd i h = down_step leaf (tree_step rd) (tree_local rd) i h

pub tree_zero : (rd : Reader) → tree rd 0 ≡ leaf
unfolding tree
tree_zero rd = down_zero leaf (tree_step rd)

linked_local : (rd : Reader) → Local (linked_step rd)
unfolding linked_step
linked_local rd f g i p h = rw (h _ (lower_below rd i 3 p))

pub linked_zero : (rd : Reader) → linked rd 0 ≡ []
unfolding linked
linked_zero rd = down_zero [] (linked_step rd)

pub linked_step_lem : (rd : Reader) (i : ℕ) → 0 < i → linked rd i ≡ i ∷ linked rd (lower rd i 3)
unfolding linked linked_step
linked_step_lem rd i h = down_step [] (linked_step rd) (linked_local rd) i h

pub items_zero : (rd : Reader) → items rd 0 ≡ []
unfolding items
items_zero rd = rw (linked_zero rd)

pub items_step : (rd : Reader) (i : ℕ) → 0 < i → items rd i ≡ lower rd i 1 ∷ items rd (lower rd i 3)
unfolding items
items_step rd i h = rw (linked_step_lem rd i h)

-- what a chain's items say of its links
pub items_end : (rd : Reader) (i : ℕ) → items rd i ≡ [] → i ≡ 0
items_end rd zero e = refl
items_end rd (suc i) e = let q = sym (items_step rd (suc i) (omega arith)) ∙ e in let z : ◌≡◌ {A = ℕ} 0 1 = cc in absurd (omega arith)

pub items_more : (rd : Reader) (i x : ℕ) (xs : List ℕ) → items rd i ≡ x ∷ xs → (0 < i) × (lower rd i 1 ≡ x) × (items rd (lower rd i 3) ≡ xs)
items_more rd zero x xs e = let q = sym (items_zero rd) ∙ e in let z : ◌≡◌ {A = ℕ} 0 1 = cc in absurd (omega arith)
items_more rd (suc i) x xs e = let q = sym (items_step rd (suc i) (omega arith)) ∙ e in (omega arith, (cc), (cc))

-- `same` is equality of trees
both_in : (a b : Bool) → both a b ≡ true → (a ≡ true) × (b ≡ true)
unfolding both
both_in true b h = (refl, h)
both_in false b h = absurd (false≢true h)

same_both : (k l a b : ℕ) (x u y v z w : Tree) →
    same (node k a x y z) (node l b u v w) ≡ both (both (eqb k l) (eqb a b)) (both (same x u) (both (same y v) (same z w)))
unfolding same both same_head
same_both k l a b x u y v z w = refl

pub same_equal : (x y : Tree) → same x y ≡ true → x ≡ y
unfolding same
same_equal leaf leaf h = refl
same_equal leaf (node k a x y z) h = absurd (false≢true h)
same_equal (node k a x y z) leaf h = absurd (false≢true h)
same_equal (node k a x y z) (node l b u v w) h =
    let p = both_in _ _ (rw same_both at h) in
    let head = both_in _ _ p.0 in
    let q = both_in _ _ p.1 in
    let r = both_in _ _ q.1 in
    let ek : k ≡ l = eqb-true k l head.0 in
    let ea : a ≡ b = eqb-true a b head.1 in
    let ex : x ≡ u = same_equal x u q.0 in
    let ey : y ≡ v = same_equal y v r.0 in
    let ez : z ≡ w = same_equal z w r.1 in
    cc

pub same_self : (x : Tree) → same x x ≡ true
unfolding same both
same_self leaf = refl
same_self (node k a x y z) = rw same_both (simp (both, eq-eqb k k refl, eq-eqb a a refl, same_self x, same_self y, same_self z))
