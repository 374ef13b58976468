-- Types put in place of type variables are removed with the types, for type variables are in types only.
use Rattle.std.specs.Prelude.{ℕ, ◌<◌, ◌≡◌, refl, List, Bool, true, false, eqb}
use Rattle.std.proofs.Common.{ap, subst, ◌∙◌, arith, eqb-true, ne_eqb}
use Rattle.std.proofs.lemmas.Bool.{eqb-false}
use Rattle.reader.specs.Words.{Reader}
use Rattle.reader.specs.Tests.{if_true}
use Rattle.reader.specs.Trees.{Tree, leaf, node}
use Rattle.reader.specs.Variables.{instance}
use Rattle.reader.specs.Notions.{TypesBelow}
use Rattle.derivation_rules.specs.Erase.{is_type, untyped, bare, ⌊◌⌋}
use Rattle.derivation_meaning.specs.Formulas.{Term, Arguments, Formula}
use Rattle.derivation_meaning.proofs.EraseLaws.{bare_true, bare_types, bare_node, bare_cases}

untyped_same : (k w : ℕ) (x y : Tree) → (is_type k w ≡ false → x ≡ y) → untyped k w x ≡ untyped k w y
unfolding untyped if_true
untyped_same k w x y h = go (is_type k w) refl
  where
    go : (b : Bool) → is_type k w ≡ b → untyped k w x ≡ untyped k w y
    go true e = simp (untyped, if_true, e)
    go false e = simp (untyped, if_true, e) (h e)

untyped_kept : (k w : ℕ) (t : Tree) → is_type k w ≡ false → untyped k w t ≡ t
unfolding untyped if_true
untyped_kept k w t e = simp (untyped, if_true, e)

-- no type variable is in the tree
abbrev pub Typeless : Tree → Type 0
Typeless t = TypesBelow 0 t

-- a node that is no type variable, and whose parts have none
typeless_parts : {k a : ℕ} {x y z : Tree} → Typeless (node k a x y z) → (k ≡ 6 → a < 0) × Typeless x × Typeless y × Typeless z
typeless_parts (TypesBelow.inside own p q r) = (own, p, q, r)

-- a node with the parts x, y, z; u, v, w are they without types, p, q, r with the types put in and then without types
bare_instance : (k a : ℕ) (u v w p q r : Tree) → (Typeless u → p ≡ u) → (Typeless v → q ≡ v) → (Typeless w → r ≡ w) → Typeless (bare k a u v w) →
    bare k a p q r ≡ bare k a u v w
bare_instance k a u v w p q r first second third =
    bare_cases k a u v w (λ t. Typeless t → bare k a p q r ≡ t) (λ e h. bare_true k a p q r e) (λ e h. bare_types k a p q r e ∙ second h) other
  where
    other : (k ≡ 15 → ⊥) → (k ≡ 22 → ⊥) → Typeless (node k a (untyped k 1 u) (untyped k 2 v) (untyped k 3 w)) →
        bare k a p q r ≡ node k a (untyped k 1 u) (untyped k 2 v) (untyped k 3 w)
    other m n h =
        let parts = typeless_parts h in
        let one = untyped_same k 1 p u (λ e. first (subst Typeless (untyped_kept k 1 u e) parts.1)) in
        let two = untyped_same k 2 q v (λ e. second (subst Typeless (untyped_kept k 2 v e) parts.2)) in
        let three = untyped_same k 3 r w (λ e. third (subst Typeless (untyped_kept k 3 w e) parts.3)) in
        let here = bare_node k a p q r m n in
        cc

bare_variable : (k a : ℕ) (u v w : Tree) → k ≡ 6 → Typeless (bare k a u v w) → ⊥
bare_variable k a u v w e =
    bare_cases k a u v w (λ t. Typeless t → ⊥) (λ q h. absurd (omega arith)) (λ q h. absurd (omega arith))
    (λ p q h. let below : a < 0 = (typeless_parts h).0 e in absurd (omega arith))

instance_node : (types : List Tree) (k a : ℕ) (x y z : Tree) → (k ≡ 6 → ⊥) →
    instance types (node k a x y z) ≡ node k a (instance types x) (instance types y) (instance types z)
unfolding instance
instance_node types k a x y z h = simp (instance, ne_eqb k 6 h)

instance_step : (types : List Tree) (k a : ℕ) (x y z : Tree) → (Typeless ⌊ x ⌋ → ⌊ instance types x ⌋ ≡ ⌊ x ⌋) →
    (Typeless ⌊ y ⌋ → ⌊ instance types y ⌋ ≡ ⌊ y ⌋) → (Typeless ⌊ z ⌋ → ⌊ instance types z ⌋ ≡ ⌊ z ⌋) →
    Typeless (bare k a ⌊ x ⌋ ⌊ y ⌋ ⌊ z ⌋) → ⌊ instance types (node k a x y z) ⌋ ≡ bare k a ⌊ x ⌋ ⌊ y ⌋ ⌊ z ⌋
unfolding ⌊◌⌋
instance_step types k a x y z first second third h = go (eqb k 6) refl
  where
    go : (b : Bool) → eqb k 6 ≡ b → ⌊ instance types (node k a x y z) ⌋ ≡ bare k a ⌊ x ⌋ ⌊ y ⌋ ⌊ z ⌋
    go true e = absurd (bare_variable k a ⌊ x ⌋ ⌊ y ⌋ ⌊ z ⌋ (eqb-true k 6 e) h)
    go false e =
        ap (λ (u : Tree). ⌊ u ⌋) (instance_node types k a x y z (eqb-false k 6 e))
        ∙ bare_instance k a ⌊ x ⌋ ⌊ y ⌋ ⌊ z ⌋ ⌊ instance types x ⌋ ⌊ instance types y ⌋ ⌊ instance types z ⌋ first second third h

pub instance_erase : (types : List Tree) (t : Tree) → Typeless ⌊ t ⌋ → ⌊ instance types t ⌋ ≡ ⌊ t ⌋
unfolding ⌊◌⌋ instance
instance_erase types leaf h = refl
instance_erase types (node k a x y z) h =
    instance_step types k a x y z (instance_erase types x) (instance_erase types y) (instance_erase types z) h

-- The language without types has no type variable.

typeless_node : {k a : ℕ} {x y z : Tree} → eqb k 6 ≡ false → Typeless x → Typeless y → Typeless z → Typeless (node k a x y z)
typeless_node {k = k} e p q r = TypesBelow.inside (λ same. absurd (eqb-false k 6 e same)) p q r

mutual
  pub term_typeless : {rd : Reader} {t : Tree} → Term rd t → Typeless t
  term_typeless (Term.constant e) = typeless_node refl TypesBelow.none TypesBelow.none TypesBelow.none
  term_typeless (Term.variable) = typeless_node refl TypesBelow.none TypesBelow.none TypesBelow.none
  term_typeless (Term.pair p q) = typeless_node refl (term_typeless p) (term_typeless q) TypesBelow.none
  term_typeless (Term.product p q) = typeless_node refl (term_typeless p) (term_typeless q) TypesBelow.none
  term_typeless (Term.powerset p) = typeless_node refl (term_typeless p) TypesBelow.none TypesBelow.none
  term_typeless (Term.choice p) = typeless_node refl (term_typeless p) TypesBelow.none TypesBelow.none
  term_typeless (Term.application e p) =
      typeless_node refl
      (typeless_node refl TypesBelow.none TypesBelow.none TypesBelow.none) TypesBelow.none (arguments_typeless p)

  arguments_typeless : {rd : Reader} {t : Tree} → Arguments rd t → Typeless t
  arguments_typeless Arguments.none = TypesBelow.none
  arguments_typeless (Arguments.more p q) = typeless_node refl (term_typeless p) TypesBelow.none (arguments_typeless q)

pub formula_typeless : {rd : Reader} {t : Tree} → Formula rd t → Typeless t
formula_typeless Formula.false = typeless_node refl TypesBelow.none TypesBelow.none TypesBelow.none
formula_typeless (Formula.conjunction p q) =
    typeless_node refl (formula_typeless p) (formula_typeless q) TypesBelow.none
formula_typeless (Formula.implication p q) =
    typeless_node refl (formula_typeless p) (formula_typeless q) TypesBelow.none
formula_typeless (Formula.negation p) = typeless_node refl (formula_typeless p) TypesBelow.none TypesBelow.none
formula_typeless (Formula.universal p) = typeless_node refl TypesBelow.none (formula_typeless p) TypesBelow.none
formula_typeless (Formula.equation p q) =
    typeless_node refl (term_typeless p) (term_typeless q) TypesBelow.none
formula_typeless (Formula.membership p q) =
    typeless_node refl (term_typeless p) (term_typeless q) TypesBelow.none

-- a formula's instance is the formula, types removed
pub instance_formula : {rd : Reader} (types : List Tree) (t : Tree) → Formula rd ⌊ t ⌋ → ⌊ instance types t ⌋ ≡ ⌊ t ⌋
instance_formula types t p = instance_erase types t (formula_typeless p)
