-- Shapes as numbers, and the ways out of the code that tests them on keys.
use Rattle.std.specs.Prelude.{ℕ, ◌-◌, ◌<◌, ◌≤◌, ◌≡◌, false, eqb}
use Rattle.std.proofs.Math.Path.{refl, sym, ap}
use Rattle.std.proofs.Common.{◌∙◌, arith}
use borrow.Author.Tests.{ne_eqb, lt-ltb, le-ltb}
use Rattle.reader.specs.Words.{Reader}
use Rattle.reader.specs.Tests.{both, if_lt}
use Rattle.reader.specs.Kinds.{class}
use Rattle.reader.specs.Trees.{kind_of, first_of}
use Rattle.reader.specs.Shapes.{Shape, of_kind, of_class, negated, has_shape}
use Rattle.derivation_trees.specs.Keys.{body_of, body_tree, decoded, Normal, no_negation}
use Rattle.derivation_trees.specs.Makers.{body_is, decoded_body}
use Rattle.derivation_trees.specs.Parts.{as_not}

-- a shape's number: below 32 a kind, below 64 a class after 32, from 64 on the kind of what stands under a ¬
unfoldable pub shape_of : ℕ → Shape
shape_of s = if_lt s 32 (of_kind s) (if_lt s 64 (of_class (s - 32)) (negated (of_kind (s - 64))))

-- the three forms
module _ (s : ℕ) where
  shape_low : s < 32 → shape_of s ≡ of_kind s
  unfolding shape_of if_lt
  shape_low h = simp (shape_of, if_lt, lt-ltb s 32 h)

  shape_middle : 32 ≤ s → s < 64 → shape_of s ≡ of_class (s - 32)
  unfolding shape_of if_lt
  shape_middle h l = simp (shape_of, if_lt, le-ltb s 32 h, lt-ltb s 64 l)

  shape_high : 64 ≤ s → shape_of s ≡ negated (of_kind (s - 64))
  unfolding shape_of if_lt
  shape_high h = simp (shape_of, if_lt, le-ltb s 32 (omega arith), le-ltb s 64 h)

-- The ways out of `has_shape`.
module _ (rd : Reader) (key s k : ℕ) (ek : k ≡ kind_of (decoded rd key)) where
  pub shape_kind : s < 32 → eqb k s ≡ has_shape (shape_of s) (decoded rd key)
  unfolding has_shape
  shape_kind h = rw (shape_low s h, ek) refl

  pub shape_class : 32 ≤ s → s < 64 → (c : ℕ) → c ≡ class k → eqb c (s - 32) ≡ has_shape (shape_of s) (decoded rd key)
  unfolding has_shape
  shape_class h l c e = rw (shape_middle s h l, e, ek) refl

module _ (rd : Reader) (key s : ℕ) where
  pub shape_plain : (size : ℕ) → Normal rd size key → 64 ≤ s → key < 262144 → false ≡ has_shape (shape_of s) (decoded rd key)
  unfolding has_shape both
  shape_plain size n h l =
      let is : body_tree rd (body_of key) ≡ decoded rd key = ap (body_tree rd) (body_is rd key l) ∙ sym (decoded_body rd key l) in
      let other : kind_of (decoded rd key) ≡ 18 → ⊥ = λ e. no_negation rd size key n (ap kind_of is ∙ e) in
      rw (shape_high s h) (simp (has_shape, both, ne_eqb (kind_of (decoded rd key)) 18 other))

  pub shape_negated : 64 ≤ s → 262144 ≤ key → (k : ℕ) → k ≡ kind_of (decoded rd (key - 262144)) → eqb k (s - 64) ≡ has_shape (shape_of s) (decoded rd key)
  unfolding has_shape both kind_of first_of
  shape_negated h l k e = rw (shape_high s h, as_not rd key l, e) refl
