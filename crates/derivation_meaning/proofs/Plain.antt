-- A tree with its types removed has at each node only what its kind has: so a formula is its sign with its parts.
use Rattle.std.specs.Prelude.{ℕ, zero, suc, ◌<◌, ◌≡◌, List, [], ◌∷◌, map, Bool, not, ltb}
use Rattle.std.proofs.Math.Path.{refl}
use Rattle.std.proofs.Common.{ap, ◌∙◌, arith, ltb-true}
use Rattle.std.proofs.Math.Bool.{true, false}
use Rattle.std.proofs.Math.Dec.{eqb}
use Rattle.reader.specs.Words.{Reader}
use Rattle.reader.specs.Tests.{either, if_eq, if_lt, if_true}
use Rattle.reader.specs.Kinds.{role, is_number, is_symbol, role_at}
use Rattle.reader.specs.Trees.{Tree, leaf, node, lower, child, atom, tree, kind_of, atom_of, first_of, second_of, third_of, ⊥ᵗ, ◌∧ᵗ◌, ◌⇒ᵗ◌, ¬ᵗ◌, ◌=ᵗ◌}
use Rattle.reader.specs.Chains.{parts}
use Rattle.reader.specs.Places.{negated_goal}
use Rattle.reader.specs.TreeLaws.{below, child_below, tree_zero, tree_step_lem}
use Rattle.reader.specs.Notions.{◌∈◌, here, there}
use Rattle.reader_laws.specs.Scan.{when_less}
use Rattle.derivation_rules.specs.Erase.{is_type, untyped, bare, ⌊◌⌋, bare_tree, bare_parts, constantᵇ, ∀ᵇ}
use Rattle.derivation_rules.specs.Check.{bare_goal}
use Rattle.derivation_meaning.proofs.MemberLaws.{none_in}

-- word w of a record of kind k is a part of the record's tree, and no type
unfoldable pub is_part : ℕ → ℕ → Bool
is_part k w = if_lt (role k w) 10 false (not (is_type k w))

-- records of kind k have an atom: a symbol's record number, a number
unfoldable pub has_atom : ℕ → Bool
has_atom k = either (is_symbol k) (is_number (role k 1))

-- a node with nothing but these
unfoldable pub kept : ℕ → ℕ → Tree → Tree → Tree → Tree
kept k a x y z = node k (if_true (has_atom k) a 0) (if_true (is_part k 1) x leaf) (if_true (is_part k 2) y leaf) (if_true (is_part k 3) z leaf)

unfoldable pub Plain : Tree → Type 0
Plain leaf = leaf ≡ leaf
Plain (node k a x y z) = (node k a x y z ≡ kept k a x y z) × Plain x × Plain y × Plain z

-- the parts of a plain tree
pub plain_first : (t : Tree) → Plain t → Plain (first_of t)
unfolding Plain first_of
plain_first leaf p = refl
plain_first (node k a x y z) p = p.1

pub plain_second : (t : Tree) → Plain t → Plain (second_of t)
unfolding Plain second_of
plain_second leaf p = refl
plain_second (node k a x y z) p = p.2

-- a plain tree of kind k
plain_kind : (t : Tree) (k : ℕ) → Plain t → kind_of t ≡ suc k → t ≡ kept (suc k) (atom_of t) (first_of t) (second_of t) (third_of t)
unfolding Plain kind_of atom_of first_of second_of third_of
plain_kind leaf k p e = absurd (omega arith)
plain_kind (node l a x y z) k p e = p.0 ∙ ap (λ (m : ℕ). kept m a x y z) e

-- The signs.
module _ (t : Tree) (p : Plain t) where
  pub plain_constant : kind_of t ≡ 7 → t ≡ constantᵇ (atom_of t)
  unfolding kept is_part has_atom is_type role either if_eq if_lt if_true is_symbol is_number
  plain_constant e = plain_kind t 6 p e

  pub plain_false : kind_of t ≡ 14 → t ≡ ⊥ᵗ
  unfolding kept is_part has_atom is_type role either if_eq if_lt if_true is_symbol is_number
  plain_false e = plain_kind t 13 p e

  pub plain_and : kind_of t ≡ 16 → t ≡ first_of t ∧ᵗ second_of t
  unfolding kept is_part has_atom is_type role either if_eq if_lt if_true is_symbol is_number
  plain_and e = plain_kind t 15 p e

  pub plain_implies : kind_of t ≡ 17 → t ≡ first_of t ⇒ᵗ second_of t
  unfolding kept is_part has_atom is_type role either if_eq if_lt if_true is_symbol is_number
  plain_implies e = plain_kind t 16 p e

  pub plain_not : kind_of t ≡ 18 → t ≡ ¬ᵗ (first_of t)
  unfolding kept is_part has_atom is_type role either if_eq if_lt if_true is_symbol is_number
  plain_not e = plain_kind t 17 p e

  pub plain_all : kind_of t ≡ 19 → t ≡ ∀ᵇ (second_of t)
  unfolding kept is_part has_atom is_type role either if_eq if_lt if_true is_symbol is_number
  plain_all e = plain_kind t 18 p e

  pub plain_equal : kind_of t ≡ 20 → t ≡ first_of t =ᵗ second_of t
  unfolding kept is_part has_atom is_type role either if_eq if_lt if_true is_symbol is_number
  plain_equal e = plain_kind t 19 p e

-- a negation of a plain tree
pub not_plain : (t : Tree) → Plain t → Plain (¬ᵗ t)
unfolding Plain kept is_part has_atom is_type role either if_eq if_lt if_true is_symbol is_number
not_plain t p = (refl, p, refl, refl)

-- Trees of records.

-- a word's tree, types removed, where the word is a part or none
word_plain : (k w : ℕ) (t : Tree) → (role k w < 10 → t ≡ leaf) → untyped k w t ≡ if_true (is_part k w) (untyped k w t) leaf
unfolding untyped is_part if_true if_lt
word_plain k w t h = go (ltb (role k w) 10) refl (is_type k w) refl
  where
    go : (b : Bool) → ltb (role k w) 10 ≡ b → (c : Bool) → is_type k w ≡ c → untyped k w t ≡ if_true (is_part k w) (untyped k w t) leaf
    go true e true q = simp (untyped, is_part, if_true, if_lt, e, q)
    go true e false q = simp (untyped, is_part, if_true, if_lt, e, q) (h (ltb-true (role k w) 10 e))
    go false e true q = simp (untyped, is_part, if_true, if_lt, e, q)
    go false e false q = simp (untyped, is_part, if_true, if_lt, e, q)

atom_plain : (rd : Reader) (i : ℕ) → atom rd i ≡ if_true (has_atom (rd i 0)) (atom rd i) 0
unfolding atom has_atom if_true either role_at
atom_plain rd i = go (is_symbol (rd i 0)) refl (is_number (role (rd i 0) 1)) refl
  where
    go : (b : Bool) → is_symbol (rd i 0) ≡ b → (c : Bool) → is_number (role (rd i 0) 1) ≡ c → atom rd i ≡ if_true (has_atom (rd i 0)) (atom rd i) 0
    go true e c q = simp (has_atom, either, if_true, e)
    go false e true q = simp (has_atom, either, if_true, e, q)
    go false e false q = simp (atom, has_atom, either, if_true, e, q)

no_child : (rd : Reader) (i w : ℕ) → role (rd i 0) w < 10 → ⌊ tree rd (child rd i w) ⌋ ≡ leaf
unfolding child role_at ⌊◌⌋
no_child rd i w h = ap (λ (t : Tree). ⌊ t ⌋) (ap (tree rd) (when_less 0 (lower rd i w) (role_at rd i w) 10 h) ∙ tree_zero rd)

untyped_plain : (k w : ℕ) (t : Tree) → Plain t → Plain (untyped k w t)
unfolding untyped if_true Plain
untyped_plain k w t p = go (is_type k w) refl
  where
    go : (b : Bool) → is_type k w ≡ b → Plain (untyped k w t)
    go true e = simp (untyped, if_true, e)
    go false e = simp (untyped, if_true, e) p

-- one step
module _ (k a : ℕ) (x y z : Tree) (ea : a ≡ if_true (has_atom k) a 0) (px : Plain x) (py : Plain y) (pz : Plain z)
    (ex : role k 1 < 10 → x ≡ leaf) (ey : role k 2 < 10 → y ≡ leaf) (ez : role k 3 < 10 → z ≡ leaf) where
  node_plain : Plain (node k a (untyped k 1 x) (untyped k 2 y) (untyped k 3 z))
  unfolding Plain kept
  node_plain =
      let first = word_plain k 1 x ex in
      let second = word_plain k 2 y ey in
      let third = word_plain k 3 z ez in
      (cc, untyped_plain k 1 x px, untyped_plain k 2 y py, untyped_plain k 3 z pz)

  bare_plain : Plain (bare k a x y z)
  unfolding bare if_eq Plain kept is_part has_atom is_type role either if_lt if_true is_symbol is_number
  bare_plain = go (eqb k 15) refl (eqb k 22) refl
    where
      go : (b : Bool) → eqb k 15 ≡ b → (c : Bool) → eqb k 22 ≡ c → Plain (bare k a x y z)
      go true e c q = simp (bare, if_eq, e) (refl, (refl, refl, refl, refl), refl, refl)
      go false e true q = simp (bare, if_eq, e, q) py
      go false e false q = simp (bare, if_eq, e, q) node_plain

pub tree_plain : (rd : Reader) (i : ℕ) → Plain ⌊ tree rd i ⌋
unfolding ⌊◌⌋ Plain
tree_plain rd = below (λ i. Plain ⌊ tree rd i ⌋) go
  where
    go : (i : ℕ) → ((j : ℕ) → j < i → Plain ⌊ tree rd j ⌋) → Plain ⌊ tree rd i ⌋
    go zero ih = rw (tree_zero rd) refl
    go (suc i) ih =
        let n : ℕ = suc i in
        let pos : 0 < n = omega arith in
        rw (tree_step_lem rd n pos) (bare_plain (rd n 0) (atom rd n) _ _ _ (atom_plain rd n)
        (ih _ (child_below rd n 1 pos)) (ih _ (child_below rd n 2 pos)) (ih _ (child_below rd n 3 pos))
        (no_child rd n 1) (no_child rd n 2) (no_child rd n 3))

-- the parts of a node
trees_plain : (rd : Reader) (t : Tree) (is : List ℕ) → t ∈ map (bare_tree rd) is → Plain t
unfolding bare_tree
trees_plain rd t [] m = none_in m
trees_plain rd t (i ∷ is) (here e) = rw e (tree_plain rd i)
trees_plain rd t (i ∷ is) (there m) = trees_plain rd t is m

pub parts_plain : (rd : Reader) (n : ℕ) (t : Tree) → t ∈ bare_parts rd n → Plain t
unfolding bare_parts
parts_plain rd n t m = trees_plain rd t (parts rd n) m

-- the goal
first_plain : (rd : Reader) (g : ℕ) → Plain ⌊ first_of (tree rd g) ⌋
unfolding first_of ⌊◌⌋ Plain
first_plain rd zero = rw (tree_zero rd) refl
first_plain rd (suc g) = rw (tree_step_lem rd (suc g) (omega arith)) (tree_plain rd (child rd (suc g) 1))

pub goal_plain : (rd : Reader) → Plain (bare_goal rd)
unfolding bare_goal
goal_plain rd = first_plain rd (negated_goal rd)
