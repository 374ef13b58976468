-- What the forms of a node's parts give, and the other way round.
use Rattle.std.specs.Prelude.{ℕ, zero, suc, ◌≡◌, Bool, true, false, length, replicate}
use Rattle.std.proofs.Math.Path.{refl}
use Rattle.std.proofs.Common.{sym, ap, ◌∙◌, eqb-true, eq-eqb}
use mathlib.Core.List.{List, [], ◌∷◌, map}
use Rattle.std.proofs.lemmas.Bool.{false≢true}
use Rattle.reader.specs.Words.{Reader}
use Rattle.reader.specs.Tests.{both}
use Rattle.reader.specs.Kinds.{class}
use Rattle.reader.specs.Trees.{Tree, node, child, tree, kind_of, first_of, ¬ᵗ◌}
use Rattle.reader.specs.Shapes.{Shape, of_class, of_kind, negated, type, formula, for_all_types, has_shape, have_shapes}
use Rattle.reader.specs.Notions.{here, there, Every, IsType}
use Rattle.reader_laws.specs.Scan.{both_parts}
use Rattle.reader_laws.specs.NotionLaws.{every_0, every_more}
use Rattle.reader_meaning.specs.Signs.{for_typesᵗ}
use Rattle.reader_meaning.proofs.TreeForms.{not_made, for_types_made}

-- a class that is asked for
pub of_class_lem : (c : ℕ) (t : Tree) → has_shape (of_class c) t ≡ true → class (kind_of t) ≡ c
unfolding has_shape
of_class_lem c t h = eqb-true _ c h

pub class_of : (c : ℕ) (t : Tree) → class (kind_of t) ≡ c → has_shape (of_class c) t ≡ true
unfolding has_shape
class_of c t h = eq-eqb _ c h

-- a kind that is asked for
pub of_kind_lem : (k : ℕ) (t : Tree) → has_shape (of_kind k) t ≡ true → kind_of t ≡ k
unfolding has_shape
of_kind_lem k t h = eqb-true _ k h

-- a negation that is asked for, of something that has a form
pub of_negated : (rd : Reader) (s : Shape) (i : ℕ) → has_shape (negated s) (tree rd i) ≡ true →
    (tree rd i ≡ ¬ᵗ (tree rd (child rd i 1))) × (has_shape s (tree rd (child rd i 1)) ≡ true)
unfolding has_shape first_of
of_negated rd s i h =
    let p = both_parts _ _ h in
    let e = not_made rd i (eqb-true _ 18 p.0) in
    (e, ap (λ (t : Tree). has_shape s (first_of t)) (sym e) ∙ p.1)

-- forms of parts, one by one
pub forms_head : (s : Shape) (ss : List Shape) (t : Tree) (ts : List Tree) → have_shapes (s ∷ ss) (t ∷ ts) ≡ true →
    (has_shape s t ≡ true) × (have_shapes ss ts ≡ true)
unfolding have_shapes
forms_head s ss t ts h = go (has_shape s t) refl h
  where
    go : (b : Bool) → has_shape s t ≡ b → ◌≡◌ {A = Bool} (elim b [ true ↦ have_shapes ss ts | false ↦ false ]) true →
        (has_shape s t ≡ true) × (have_shapes ss ts ≡ true)
    go true e h = (e, h)
    go false e h = absurd (false≢true h)

-- equal parts one by one
pub cons_same : {t u : Tree} {ts us : List Tree} → t ≡ u → ts ≡ us → t ∷ ts ≡ u ∷ us
cons_same p q = cc

-- Parts that have the forms of a rule.
module _ (rd : Reader) where
  pub forms_0 : (xs : List ℕ) → have_shapes [] (map (tree rd) xs) ≡ true → map (tree rd) xs ≡ []
  unfolding have_shapes
  forms_0 [] h = refl
  forms_0 (i ∷ xs) h = absurd (false≢true h)

  pub forms_more : (s : Shape) (ss : List Shape) (xs : List ℕ) → have_shapes (s ∷ ss) (map (tree rd) xs) ≡ true →
      (i : ℕ) × (ys : List ℕ) × (map (tree rd) xs ≡ tree rd i ∷ map (tree rd) ys) × (has_shape s (tree rd i) ≡ true) × (have_shapes ss (map (tree rd) ys) ≡ true)
  unfolding have_shapes
  forms_more s ss [] h = absurd (false≢true h)
  forms_more s ss (i ∷ ys) h = let p = forms_head s ss (tree rd i) (map (tree rd) ys) h in (i, ys, refl, p.0, p.1)

  pub forms_1 : (s : Shape) (xs : List ℕ) → have_shapes (s ∷ []) (map (tree rd) xs) ≡ true →
      (i : ℕ) × (map (tree rd) xs ≡ tree rd i ∷ []) × (has_shape s (tree rd i) ≡ true)
  forms_1 s xs h =
      let p = forms_more s [] xs h in
      (p.0, p.2 ∙ cons_same refl (forms_0 p.1 p.4), p.3)

  pub forms_3 : (r s t : Shape) (xs : List ℕ) → have_shapes (r ∷ s ∷ t ∷ []) (map (tree rd) xs) ≡ true →
      (i : ℕ) × (j : ℕ) × (l : ℕ) × (map (tree rd) xs ≡ tree rd i ∷ tree rd j ∷ tree rd l ∷ []) ×
      (has_shape r (tree rd i) ≡ true) × (has_shape s (tree rd j) ≡ true) × (has_shape t (tree rd l) ≡ true)
  forms_3 r s t xs h =
      let p = forms_more r (s ∷ t ∷ []) xs h in
      let q = forms_more s (t ∷ []) p.1 p.4 in
      let o = forms_1 t q.1 q.4 in
      let e = p.2 ∙ cons_same refl (q.2 ∙ cons_same refl o.1) in
      (p.0, q.0, o.0, e, p.3, q.3, o.2)

  pub forms_5 : (r s t u v : Shape) (xs : List ℕ) → have_shapes (r ∷ s ∷ t ∷ u ∷ v ∷ []) (map (tree rd) xs) ≡ true →
      (i : ℕ) × (j : ℕ) × (a : ℕ) × (b : ℕ) × (c : ℕ) × (map (tree rd) xs ≡ tree rd i ∷ tree rd j ∷ tree rd a ∷ tree rd b ∷ tree rd c ∷ []) ×
      (has_shape r (tree rd i) ≡ true) × (has_shape s (tree rd j) ≡ true) × (has_shape t (tree rd a) ≡ true) ×
      (has_shape u (tree rd b) ≡ true) × (has_shape v (tree rd c) ≡ true)
  forms_5 r s t u v xs h =
      let p = forms_more r (s ∷ t ∷ u ∷ v ∷ []) xs h in
      let q = forms_more s (t ∷ u ∷ v ∷ []) p.1 p.4 in
      let o = forms_3 t u v q.1 q.4 in
      let e = p.2 ∙ cons_same refl (q.2 ∙ cons_same refl o.3) in
      (p.0, q.0, o.0, o.1, o.2, e, p.3, q.3, o.4, o.5, o.6)

  -- those of rule 45, before its types
  pub forms_45 : (ss : List Shape) (xs : List ℕ) → have_shapes (for_all_types ∷ formula ∷ ss) (map (tree rd) xs) ≡ true →
      (m : ℕ) × (P : Tree) × (R : Tree) × (τs : List Tree) × (map (tree rd) xs ≡ for_typesᵗ m P ∷ R ∷ τs)
  forms_45 ss xs h =
      let p = forms_more for_all_types (formula ∷ ss) xs h in
      let q = forms_more formula ss p.1 p.4 in
      let e = for_types_made rd p.0 (of_kind_lem 22 _ p.3) in
      (rd p.0 1, tree rd (child rd p.0 2), tree rd q.0, map (tree rd) q.1, p.2 ∙ cons_same e q.2)

-- a list of types, of a given length
pub forms_types : (m : ℕ) (ts : List Tree) → have_shapes (replicate m type) ts ≡ true → (length ts ≡ m) × Every IsType ts
unfolding have_shapes
forms_types zero [] h = (refl, every_0 IsType)
forms_types zero (t ∷ ts) h = absurd (false≢true h)
forms_types (suc m) [] h = absurd (false≢true h)
forms_types (suc m) (t ∷ ts) h =
    let p = forms_head type (replicate m type) t ts h in
    let q = forms_types m ts p.1 in
    (ap suc q.0, every_more IsType t ts (of_class_lem 3 t p.0) q.1)

-- forms one by one
pub more_forms : (s : Shape) (ss : List Shape) (t : Tree) (ts : List Tree) → has_shape s t ≡ true → have_shapes ss ts ≡ true → have_shapes (s ∷ ss) (t ∷ ts) ≡ true
unfolding have_shapes
more_forms s ss t ts p q = simp (have_shapes, p) q

pub no_forms : have_shapes [] [] ≡ true
unfolding have_shapes
no_forms = refl

pub types_form : (ts : List Tree) → Every IsType ts → have_shapes (replicate (length ts) type) ts ≡ true
types_form [] h = no_forms
types_form (t ∷ ts) h = more_forms type (replicate (length ts) type) t ts (class_of 3 t (h t (here refl))) (types_form ts (λ u m. h u (there m)))

pub one_form : (s : Shape) (t : Tree) → has_shape s t ≡ true → have_shapes (s ∷ []) (t ∷ []) ≡ true
one_form s t p = more_forms s [] t [] p no_forms

-- a sign has its form
pub kind_form : (k a : ℕ) (x y z : Tree) → has_shape (of_kind k) (node k a x y z) ≡ true
unfolding has_shape kind_of
kind_form k a x y z = eq-eqb k k refl

pub negated_form : (s : Shape) (t : Tree) → has_shape s t ≡ true → has_shape (negated s) (¬ᵗ t) ≡ true
unfolding has_shape kind_of first_of both
negated_form s t h = h
