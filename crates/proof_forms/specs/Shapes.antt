-- Shapes as numbers, and the ways out of the code that tests them.
use Prim.Native.Nat.{ℕ, zero, suc, ◌-◌, ◌/◌, ◌%◌, ◌<◌, ◌≤◌}
use Rattle.std.specs.Prelude.{◌≡◌, Bool, true, false, not, get_or, replicate}
use Rattle.std.proofs.Math.Path.{refl}
use Rattle.std.proofs.Common.{ap, arith}
use mathlib.Core.List.{List, [], ◌∷◌}
use Rattle.std.proofs.Math.Dec.{eqb, eqb-suc-zero}
use borrow.Author.Tests.{eq-eqb, ne_eqb, lt-ltb, le-ltb, not-true, not-false}
use Rattle.reader.specs.Words.{Reader}
use Rattle.reader.specs.Tests.{both, if_lt}
use Rattle.reader.specs.Down.{iter, down}
use Rattle.reader.specs.DownLaws.{Local, down_zero, down_step}
use Rattle.reader.specs.Kinds.{class}
use Rattle.reader.specs.Trees.{Tree, leaf, lower, child, atom, tree, kind_of, atom_of}
use Rattle.reader.specs.Chains.{item_trees}
use Rattle.reader.specs.Shapes.{Shape, of_kind, of_class, negated, type, formula, for_all_types, has_shape, have_shapes}
use Rattle.reader.specs.TreeLaws.{tree_zero}
use Rattle.proof_references.specs.declared.References.{References}
use Rattle.proof_references.specs.References.{ReferencesAre}
use Rattle.reader_chains.specs.Shapes.{first_tree, atom_tree, lower_zero}
use Rattle.reader_chains.specs.Chains.{trees_zero, trees_step}

-- a shape's number: below 32 a kind, below 64 a class after 32, from 64 on what stands under a ¬
unfoldable pub shape_step : (ℕ → Shape) → ℕ → Shape
shape_step sub s = if_lt s 32 (of_kind s) (if_lt s 64 (of_class (s - 32)) (negated (sub (s - 64))))

unfoldable pub shape_of : ℕ → Shape
shape_of = down (of_kind 0) shape_step

-- n shapes: a byte for each, the first's lowest
unfoldable pub shapes_of : ℕ → ℕ → List Shape
shapes_of zero code = []
shapes_of (suc n) code = shape_of (code % 256) ∷ shapes_of n (code / 256)

-- the shapes of rule 45's parts
unfoldable pub instance_shapes : List Tree → Bool
instance_shapes ts = have_shapes (for_all_types ∷ formula ∷ replicate (atom_of (get_or ts 0 leaf)) type) ts

shape_local : Local shape_step
unfolding shape_step
shape_local f g s p h = rw (h (s - 64) (omega arith))

shape_step_lem : (s : ℕ) → 0 < s → shape_of s ≡ shape_step shape_of s
unfolding shape_of
shape_step_lem s p = down_step (of_kind 0) shape_step shape_local s p

-- at 0 too
shape_any : (s : ℕ) → shape_of s ≡ shape_step shape_of s
unfolding shape_step if_lt shape_of
shape_any zero = down_zero (of_kind 0) shape_step
shape_any (suc s) = shape_step_lem (suc s) (omega arith)

-- The ways out of `has_shape`.
module _ (rd : Reader) (i s k : ℕ) (ek : k ≡ kind_of (tree rd i)) where
  pub shape_kind : s < 32 → eqb k s ≡ has_shape (shape_of s) (tree rd i)
  unfolding has_shape shape_step if_lt
  shape_kind h = rw (shape_any s) (simp (shape_step, if_lt, lt-ltb s 32 h, has_shape, ← ek))

  module _ (high : 32 ≤ s) where
    pub shape_class : s < 64 → (c : ℕ) → c ≡ class k → eqb c (s - 32) ≡ has_shape (shape_of s) (tree rd i)
    unfolding has_shape shape_step if_lt
    shape_class h c e = rw (shape_any s) (simp (shape_step, if_lt, le-ltb s 32 high, lt-ltb s 64 h, has_shape, ← ek, ← e))

    module _ (higher : 64 ≤ s) where
      pub shape_other : (k ≡ 18 → ⊥) → false ≡ has_shape (shape_of s) (tree rd i)
      unfolding has_shape shape_step if_lt both
      shape_other h = rw (shape_any s) (simp (shape_step, if_lt, le-ltb s 32 high, le-ltb s 64 higher, has_shape, both, ← ek, ne_eqb k 18 h))

      pub shape_negated : k ≡ 18 → (x : ℕ) (r : Bool) → x ≡ child rd i 1 → r ≡ has_shape (shape_of (s - 64)) (tree rd x) → r ≡ has_shape (shape_of s) (tree rd i)
      unfolding has_shape shape_step if_lt both
      shape_negated h x r ex e =
          rw (shape_any s)
          (simp (shape_step, if_lt, le-ltb s 32 high, le-ltb s 64 higher, has_shape, both, ← ek, eq-eqb k 18 h, first_tree rd i, ← ex) e)

-- one tree more: its shape is the lowest byte of the code
shapes_next : (n code : ℕ) (t : Tree) (ts : List Tree) → (n ≡ 0 → ⊥) →
    have_shapes (shapes_of n code) (t ∷ ts) ≡ both (has_shape (shape_of (code % 256)) t) (have_shapes (shapes_of (n - 1) (code / 256)) ts)
unfolding have_shapes both shapes_of
shapes_next zero code t ts h = absurd (h refl)
shapes_next (suc n) code t ts h = let z : suc n - 1 ≡ n = omega arith in rw z refl

-- the ends of a chain
shapes_none : (n code : ℕ) → eqb n 0 ≡ have_shapes (shapes_of n code) []
unfolding have_shapes shapes_of
shapes_none zero code = refl
shapes_none (suc n) code = eqb-suc-zero n

shapes_past : (code : ℕ) (t : Tree) (ts : List Tree) → false ≡ have_shapes (shapes_of 0 code) (t ∷ ts)
unfolding have_shapes shapes_of
shapes_past code t ts = refl

-- The ways out of `have_shapes`: what is left of the chain gives the answer.
module _ (rd : Reader) (c n code l left bytes : ℕ) (inv : have_shapes (shapes_of n code) (item_trees rd c) ≡ have_shapes (shapes_of left bytes) (item_trees rd l)) where
  pub shapes_end : l ≡ 0 → eqb left 0 ≡ have_shapes (shapes_of n code) (item_trees rd c)
  shapes_end h = rw (inv, h, trees_zero rd) (shapes_none left bytes)

  pub shapes_over : (l ≡ 0 → ⊥) → left ≡ 0 → false ≡ have_shapes (shapes_of n code) (item_trees rd c)
  shapes_over h z = rw (inv, z, trees_step rd l (omega arith)) (shapes_past bytes _ _)

  module _ (given : l ≡ 0 → ⊥) (wanted : left ≡ 0 → ⊥) (link : References) (is : ReferencesAre rd l link) (r : Bool)
      (er : r ≡ has_shape (shape_of (bytes % 256)) (tree rd link.first)) where
    turn_is : have_shapes (shapes_of n code) (item_trees rd c) ≡ both r (have_shapes (shapes_of (left - 1) (bytes / 256)) (item_trees rd link.third))
    turn_is = rw (inv, trees_step rd l (omega arith), shapes_next left bytes _ _ wanted, ← is.first_is, ← is.third_is, ← er) refl

    pub shapes_stop : not r ≡ true → false ≡ have_shapes (shapes_of n code) (item_trees rd c)
    unfolding both
    shapes_stop h = rw (turn_is, not-true r h) refl

    pub shapes_more : not r ≡ false → have_shapes (shapes_of n code) (item_trees rd c) ≡ have_shapes (shapes_of (left - 1) (bytes / 256)) (item_trees rd link.third)
    unfolding both
    shapes_more h = rw (turn_is, not-false r h) refl

-- types alone
types_more : (n : ℕ) (t : Tree) (ts : List Tree) → (n ≡ 0 → ⊥) → have_shapes (replicate n type) (t ∷ ts) ≡ both (has_shape (shape_of 35) t) (have_shapes (replicate (n - 1) type) ts)
unfolding have_shapes both shape_of shape_step if_lt down iter
types_more zero t ts h = absurd (h refl)
types_more (suc n) t ts h = let z : suc n - 1 ≡ n = omega arith in rw z refl

module _ (rd : Reader) (c n : ℕ) where
  pub types_end : c ≡ 0 → eqb n 0 ≡ have_shapes (replicate n type) (item_trees rd c)
  unfolding have_shapes
  types_end h = rw (h, trees_zero rd) (go n)
    where
      go : (k : ℕ) → eqb k 0 ≡ have_shapes (replicate k type) []
      go zero = refl
      go (suc k) = eqb-suc-zero k

  pub types_over : (c ≡ 0 → ⊥) → n ≡ 0 → false ≡ have_shapes (replicate n type) (item_trees rd c)
  unfolding have_shapes
  types_over h z = rw (z, trees_step rd c (omega arith)) refl

  module _ (given : c ≡ 0 → ⊥) (wanted : n ≡ 0 → ⊥) (item rest : ℕ) (ei : item ≡ lower rd c 1) (er : rest ≡ lower rd c 3) where
    pub types_next : (r : Bool) → r ≡ both (has_shape (shape_of 35) (tree rd item)) (have_shapes (replicate (n - 1) type) (item_trees rd rest)) →
        r ≡ have_shapes (replicate n type) (item_trees rd c)
    types_next r e = rw (trees_step rd c (omega arith), types_more n _ _ wanted, ← ei, ← er) e

-- the shapes of rule 45's parts, from a chain
instance_rest : (rd : Reader) (n rest : ℕ) → have_shapes (formula ∷ replicate n type) (item_trees rd rest) ≡
    both (has_shape (shape_of 37) (tree rd (lower rd rest 1))) (have_shapes (replicate n type) (item_trees rd (lower rd rest 3)))
unfolding have_shapes both shape_of shape_step if_lt down iter has_shape kind_of class
instance_rest rd n zero = rw (lower_zero rd 1, lower_zero rd 3, trees_zero rd, tree_zero rd) refl
instance_rest rd n (suc rest) = rw (trees_step rd (suc rest) (omega arith)) refl

instance_first : (rd : Reader) (h rest : ℕ) → instance_shapes (tree rd h ∷ item_trees rd rest) ≡ both (has_shape (shape_of 22) (tree rd h))
    (both (has_shape (shape_of 37) (tree rd (lower rd rest 1))) (have_shapes (replicate (atom rd h) type) (item_trees rd (lower rd rest 3))))
unfolding instance_shapes have_shapes both shape_of shape_step if_lt down iter has_shape kind_of class
instance_first rd zero rest = rw (tree_zero rd) refl
instance_first rd (suc h) rest =
    let e : atom_of (tree rd (suc h)) ≡ atom rd (suc h) = atom_tree rd (suc h) (omega arith) in
    rw e (ap (both (has_shape (shape_of 22) (tree rd (suc h)))) (instance_rest rd (atom rd (suc h)) rest))

instance_chain : (rd : Reader) (c : ℕ) → instance_shapes (item_trees rd c) ≡ both (has_shape (shape_of 22) (tree rd (lower rd c 1)))
    (both (has_shape (shape_of 37) (tree rd (lower rd (lower rd c 3) 1)))
    (have_shapes (replicate (atom rd (lower rd c 1)) type) (item_trees rd (lower rd (lower rd c 3) 3))))
unfolding instance_shapes have_shapes both shape_of shape_step if_lt down iter has_shape kind_of class
instance_chain rd zero = rw (lower_zero rd 1, trees_zero rd, tree_zero rd) refl
instance_chain rd (suc c) = rw (trees_step rd (suc c) (omega arith)) (instance_first rd (lower rd (suc c) 1) (lower rd (suc c) 3))

module _ (rd : Reader) (c h rest x ts a : ℕ) (eh : h ≡ lower rd c 1) (er : rest ≡ lower rd c 3) (ex : x ≡ lower rd rest 1) (et : ts ≡ lower rd rest 3) (ea : a ≡ atom rd h) where
  pub instance_parts : (r : Bool) → r ≡ both (has_shape (shape_of 22) (tree rd h)) (both (has_shape (shape_of 37) (tree rd x)) (have_shapes (replicate a type) (item_trees rd ts))) →
      r ≡ instance_shapes (item_trees rd c)
  instance_parts r e = rw (instance_chain rd c, ← eh, ← er, ← ex, ← et, ← ea) e
