-- A tree without types as one number, its key: how many ¬ stand before it, times 262,144, and the number of what follows, its body: 0 the empty tree,
-- 1 ⊥, and else 1 more than the least record with that tree. Equal trees have equal keys, so that no tree is built and none is compared node by node.
use Rattle.std.specs.Prelude.{ℕ, zero, suc, ◌+◌, ◌*◌, ◌-◌, ◌/◌, ◌%◌, ◌<◌, ◌≤◌, ◌≡◌, Bool, true, false, eqb}
use Rattle.std.proofs.Math.Path.{refl, ap}
use Rattle.std.proofs.Common.{sym, ◌∙◌}
use Rattle.std.proofs.lemmas.Bool.{false≢true}
use native.Mathlib.Omega.{arith}
use borrow.Author.Tests.{eq-eqb, ne_eqb}
use Rattle.reader.specs.Words.{Reader}
use Rattle.reader.specs.Tests.{if_eq}
use Rattle.reader.specs.Trees.{Tree, leaf, node, same, kind_of, first_of, ⊥ᵗ, ¬ᵗ◌}
use Rattle.reader.specs.TreeLaws.{same_equal, same_self}
use Rattle.reader_equality.specs.Least.{least_of, number_equal}
use Rattle.derivation_rules.specs.Erase.{bare_tree}
use Rattle.derivation_trees.specs.Erased.{Plain, bare_zero, bare_plain}

unfoldable pub negations_of : ℕ → ℕ
negations_of key = key / 262144

unfoldable pub body_of : ℕ → ℕ
body_of key = key % 262144

-- the measure of recursion on keys: parts have smaller ranks
unfoldable pub rank : ℕ → ℕ
rank key = negations_of key + 262144 * body_of key

-- the body's tree; record 0 is the empty tree
unfoldable pub body_tree : Reader → ℕ → Tree
body_tree rd b = if_eq b 1 ⊥ᵗ (bare_tree rd (b - 1))

-- n times ¬ before a tree
unfoldable pub negate : ℕ → Tree → Tree
negate zero t = t
negate (suc n) t = ¬ᵗ (negate n t)

-- the tree that a key stands for
unfoldable pub decoded : Reader → ℕ → Tree
decoded rd key = negate (negations_of key) (body_tree rd (body_of key))

-- a key of records below `size`, as every tree has it
pub record Normal (rd : Reader) (size key : ℕ) : Type 0 where
  pub inside : body_of key ≤ size
  pub least : 1 < body_of key → least_of (bare_tree rd) (body_of key - 1) ≡ body_of key - 1
  pub plain : 1 < body_of key → Plain (rd (body_of key - 1) 0)

-- the key stands for the tree
pub record Stands (rd : Reader) (size key : ℕ) (t : Tree) : Type 0 where
  pub normal : Normal rd size key
  pub means : decoded rd key ≡ t

-- a body: none, ⊥, or a record's
pub by_body : {A : Type 0} (b : ℕ) → (b ≡ 0 → A) → (b ≡ 1 → A) → (1 < b → A) → A
by_body zero none bottom other = none refl
by_body (suc zero) none bottom other = bottom refl
by_body (suc (suc b)) none bottom other = other (omega arith)

-- The three forms of a body.
module _ (rd : Reader) (b : ℕ) where
  pub body_none : b ≡ 0 → body_tree rd b ≡ leaf
  unfolding body_tree if_eq
  body_none h = rw h (bare_zero rd)

  pub body_bottom : b ≡ 1 → body_tree rd b ≡ ⊥ᵗ
  unfolding body_tree if_eq
  body_bottom h = rw h refl

  pub body_record : 1 < b → body_tree rd b ≡ bare_tree rd (b - 1)
  unfolding body_tree if_eq
  body_record h = simp (body_tree, if_eq, ne_eqb b 1 (λ e. omega arith))

-- a record's body is a node of the record's kind
body_kind : (rd : Reader) (b : ℕ) → 1 < b → Plain (rd (b - 1) 0) → kind_of (body_tree rd b) ≡ rd (b - 1) 0
unfolding kind_of
body_kind rd b h p = rw (body_record rd b h, bare_plain rd (b - 1) (omega arith) p) refl

-- no normal body is a negation
pub no_negation : (rd : Reader) (size key : ℕ) → Normal rd size key → kind_of (body_tree rd (body_of key)) ≡ 18 → ⊥
unfolding kind_of
no_negation rd size key n = by_body (body_of key)
    (λ h e. let z : kind_of leaf ≡ 18 = sym (ap kind_of (body_none rd (body_of key) h)) ∙ e in omega (arith, z))
    (λ h e. let z : kind_of ⊥ᵗ ≡ 18 = sym (ap kind_of (body_bottom rd (body_of key) h)) ∙ e in omega (arith, z))
    (λ h e. (n.plain h).no_not (sym (body_kind rd (body_of key) h (n.plain h)) ∙ e))

-- ¬s before two trees that are no negations
negate_one : (n m : ℕ) (s t : Tree) → (kind_of s ≡ 18 → ⊥) → (kind_of t ≡ 18 → ⊥) → negate n s ≡ negate m t → (n ≡ m) × (s ≡ t)
unfolding negate kind_of first_of
negate_one zero zero s t p q e = (refl, e)
negate_one zero (suc m) s t p q e = absurd (p (ap kind_of e))
negate_one (suc n) zero s t p q e = absurd (q (ap kind_of (sym e)))
negate_one (suc n) (suc m) s t p q e = let r = negate_one n m s t p q (ap first_of e) in (ap suc r.0, r.1)

-- the empty tree is no node
pub leaf_node : {A : Type 0} (k a : ℕ) (x y z t : Tree) → t ≡ leaf → t ≡ node k a x y z → A
leaf_node k a x y z t p q = let r = sym p ∙ q in let bad : ◌≡◌ {A = ℕ} 0 1 = cc in absurd (omega arith)

-- a record's body is neither the empty tree nor ⊥
module _ (rd : Reader) (size key : ℕ) (n : Normal rd size key) (h : 1 < body_of key) where
  not_empty : {A : Type 0} → body_tree rd (body_of key) ≡ leaf → A
  not_empty e =
      leaf_node _ _ _ _ _ (body_tree rd (body_of key)) e (body_record rd (body_of key) h ∙ bare_plain rd (body_of key - 1) (omega arith) (n.plain h))

  not_bottom : {A : Type 0} → body_tree rd (body_of key) ≡ ⊥ᵗ → A
  unfolding kind_of
  not_bottom e = absurd ((n.plain h).no_false (sym (body_kind rd (body_of key) h (n.plain h)) ∙ ap kind_of e))

module _ (rd : Reader) (size : ℕ) where
  -- equal bodies have one number
  body_one : (k l : ℕ) → Normal rd size k → Normal rd size l → body_tree rd (body_of k) ≡ body_tree rd (body_of l) → body_of k ≡ body_of l
  body_one k l a b e = by_body (body_of k)
      (λ h. by_body (body_of l)
      (λ g. h ∙ sym g)
      (λ g. leaf_node 14 0 leaf leaf leaf _ (body_none rd (body_of k) h) (e ∙ body_bottom rd (body_of l) g))
      (λ g. not_empty rd size l b g (sym e ∙ body_none rd (body_of k) h)))
      (λ h. by_body (body_of l)
      (λ g. leaf_node 14 0 leaf leaf leaf _ (body_none rd (body_of l) g) (sym e ∙ body_bottom rd (body_of k) h))
      (λ g. h ∙ sym g)
      (λ g. not_bottom rd size l b g (sym e ∙ body_bottom rd (body_of k) h)))
      (λ h. by_body (body_of l)
      (λ g. not_empty rd size k a h (e ∙ body_none rd (body_of l) g))
      (λ g. not_bottom rd size k a h (e ∙ body_bottom rd (body_of l) g))
      (λ g.
      let trees : bare_tree rd (body_of k - 1) ≡ bare_tree rd (body_of l - 1) = sym (body_record rd (body_of k) h) ∙ e ∙ body_record rd (body_of l) g in
      let one : body_of k - 1 ≡ body_of l - 1 = sym (a.least h) ∙ number_equal (bare_tree rd) (body_of k - 1) (body_of l - 1) trees ∙ b.least g in
      omega arith))

  -- equal trees have one key
  pub key_one : (k l : ℕ) → Normal rd size k → Normal rd size l → decoded rd k ≡ decoded rd l → k ≡ l
  unfolding decoded negations_of body_of
  key_one k l a b e =
      let r = negate_one (negations_of k) (negations_of l) (body_tree rd (body_of k)) (body_tree rd (body_of l)) (no_negation rd size k a) (no_negation rd size l b) e in
      let bodies : k % 262144 ≡ l % 262144 = body_one k l a b r.1 in
      let signs : k / 262144 ≡ l / 262144 = r.0 in
      omega arith

  -- comparing keys is comparing trees
  pub key_same : (k l : ℕ) → Normal rd size k → Normal rd size l → eqb k l ≡ same (decoded rd k) (decoded rd l)
  key_same k l a b = go (same (decoded rd k) (decoded rd l)) refl
    where
      go : (v : Bool) → same (decoded rd k) (decoded rd l) ≡ v → eqb k l ≡ v
      go true e = eq-eqb k l (key_one k l a b (same_equal (decoded rd k) (decoded rd l) e))
      go false e = ne_eqb k l (λ q. false≢true (sym e ∙ rw q (same_self (decoded rd l))))
