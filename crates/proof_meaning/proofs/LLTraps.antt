-- What the calculus does not derive: nothing from no formula, and nothing from ∀x:τ·⊥ where no closed term has the type τ.
use Rattle.std.specs.Prelude.{ℕ, ◌+◌, ◌≡◌, refl, List, [], ◌∷◌, Bool, true, false, ◌⊎◌}
use Rattle.std.proofs.Math.Path.{sym}
use Rattle.std.proofs.Common.{ap, subst, ◌∙◌, arith}
use Rattle.std.proofs.Math.Bool.{not, false≢true}
use Rattle.reader.specs.Words.{Reader}
use Rattle.reader.specs.Tests.{both, either, if_eq, if_lt}
use Rattle.reader.specs.Kinds.{class}
use Rattle.reader.specs.Trees.{Tree, leaf, node, kind_of, same, ⊥ᵗ, ◌∧ᵗ◌, ◌⇒ᵗ◌, ¬ᵗ◌, ∀ᵗ}
use Rattle.reader.specs.TreeLaws.{same_equal, same_self}
use Rattle.reader.specs.Variables.{binders, is_index, replaced}
use Rattle.reader.specs.Members.{◌▹◌}
use Rattle.reader.specs.Notions.{◌∈◌, here, there, Every, ◌⟨◌⟩, Closed}
use Rattle.reader_laws.specs.Scan.{both_parts}
use Rattle.reader_laws.specs.NotionLaws.{every_0, every_1}
use Rattle.reader_meaning.specs.Signs.{constantᵗ, for_typesᵗ}
use Rattle.proof_meaning.specs.TypedTrees.{TypeOver, HasType, TypedFormula}
use Rattle.proof_meaning.specs.LL.{Member, LL}
use Rattle.proof_meaning.proofs.TypedTreeLaws.{symbol_inside}
use Rattle.proof_meaning.proofs.LLLaws.{every_last, LL-sequent}

-- The truth value of a formula where each type has one element or none, `some τ` saying which: two elements are equal, an element is in every set, and ∀x:τ·B
-- is true where the type has no element.
holds : (Tree → Bool) → Tree → Bool
holds some leaf = true
holds some (node k a x y z) =
    if_eq k 14 false
    (if_eq k 16 (both (holds some x) (holds some y))
    (if_eq k 17 (either (not (holds some x)) (holds some y))
    (if_eq k 18 (not (holds some x)) (if_eq k 19 (either (not (some x)) (holds some y)) true))))

-- Replacement changes no type, no formula's kind, and no truth value.

type_kept : {rd : Reader} {τ : Tree} (d : ℕ) (t : Tree) → TypeOver rd τ → replaced d t τ ≡ τ
unfolding replaced is_index
type_kept d t (TypeOver.given e) = refl
type_kept d t (TypeOver.set p) = rw (type_kept d t p)
type_kept d t (TypeOver.pair p q) = rw (type_kept d t p, type_kept (d + binders 5) t q)
type_kept d t (TypeOver.variable) = refl

kind_kept : {rd : Reader} {P : Tree} (d : ℕ) (t : Tree) → TypedFormula rd P → class (kind_of (replaced d t P)) ≡ 5
unfolding replaced is_index class kind_of if_lt
kind_kept d t TypedFormula.false = refl
kind_kept d t TypedFormula.true = refl
kind_kept d t (TypedFormula.conjunction f g) = refl
kind_kept d t (TypedFormula.implication f g) = refl
kind_kept d t (TypedFormula.negation f) = refl
kind_kept d t (TypedFormula.universal τ f b) = refl
kind_kept d t (TypedFormula.equation p q) = refl
kind_kept d t (TypedFormula.membership p q) = refl

truth_kept : {rd : Reader} {P : Tree} (some : Tree → Bool) (d : ℕ) (t : Tree) → TypedFormula rd P → holds some (replaced d t P) ≡ holds some P
unfolding replaced is_index holds if_eq
truth_kept some d t TypedFormula.false = refl
truth_kept some d t TypedFormula.true = refl
truth_kept some d t (TypedFormula.conjunction f g) = rw (truth_kept some d t f, truth_kept some (d + binders 16) t g)
truth_kept some d t (TypedFormula.implication f g) = rw (truth_kept some d t f, truth_kept some (d + binders 17) t g)
truth_kept some d t (TypedFormula.negation f) = rw (truth_kept some d t f)
truth_kept some d t (TypedFormula.universal τ f b) = rw (type_kept d t τ, truth_kept some (d + binders 19) t f)
truth_kept some d t (TypedFormula.equation p q) = refl
truth_kept some d t (TypedFormula.membership p q) = refl

-- Signs, as truth values.

not_true_both : (b : Bool) → b ≡ true → not b ≡ true → ⊥
not_true_both true p q = false≢true q
not_true_both false p q = false≢true p

not_not : (b : Bool) → not (not b) ≡ true → b ≡ true
not_not true h = refl
not_not false h = h

not_either : (a b : Bool) → not (either (not a) b) ≡ true → (a ≡ true) × (not b ≡ true)
unfolding either
not_either true b h = (refl, h)
not_either false b h = absurd (false≢true h)

either_given : (a b : Bool) → either (not a) b ≡ true → a ≡ true → b ≡ true
unfolding either
either_given true b h p = h
either_given false b h p = absurd (false≢true p)

either_cases : {C : Type 0} (a b : Bool) → either (not a) b ≡ true → (not a ≡ true → C) → (b ≡ true → C) → C
unfolding either
either_cases true b h f g = g h
either_cases false b h f g = f refl

not_both_cases : {C : Type 0} (a b : Bool) → not (both a b) ≡ true → (not a ≡ true → C) → (not b ≡ true → C) → C
unfolding both
not_both_cases true b h f g = g h
not_both_cases false b h f g = f refl

truth_cases : {C : Type 0} (b : Bool) → (b ≡ true → C) → (not b ≡ true → C) → C
truth_cases true f g = f refl
truth_cases false f g = g refl

-- Members.

last_in : (Γ : List Tree) (P : Tree) → P ∈ (Γ ▹ P)
last_in [] P = here refl
last_in (t ∷ Γ) P = there (last_in Γ P)

member_formula : {rd : Reader} {P : Tree} → Member rd P → class (kind_of P) ≡ 5 → TypedFormula rd P
unfolding class kind_of if_lt
member_formula (Member.formula c) h = c.formula
member_formula (Member.for_all_types p i v) h = absurd (omega arith)

module _ {rd : Reader} where
  -- formulas in formulas
  not_inside : {P : Tree} → TypedFormula rd (¬ᵗ P) → TypedFormula rd P
  not_inside (TypedFormula.negation f) = f

  and_inside : {P Q : Tree} → TypedFormula rd (P ∧ᵗ Q) → TypedFormula rd P × TypedFormula rd Q
  and_inside (TypedFormula.conjunction f g) = (f, g)

  implies_inside : {P Q : Tree} → TypedFormula rd (P ⇒ᵗ Q) → TypedFormula rd P × TypedFormula rd Q
  implies_inside (TypedFormula.implication f g) = (f, g)

  universal_inside : {τ B : Tree} → TypedFormula rd (∀ᵗ τ B) → TypedFormula rd B
  universal_inside (TypedFormula.universal τ f b) = f

  no_formula : {m : ℕ} {P : Tree} → TypedFormula rd (for_typesᵗ m P) → ⊥
  no_formula f = elim f [ ]

  -- A type that a closed term has, has an element.
  module _ (some : Tree → Bool) (filled : (t τ : Tree) → HasType rd t τ → Closed t → some τ ≡ true) where
    -- a well-typed formula that is true
    record True (P : Tree) : Type 0 where
      formula : TypedFormula rd P
      truth : holds some P ≡ true

    and_true : {P : Tree} (Γ : List Tree) → Every True Γ → TypedFormula rd P → holds some P ≡ true → Every True (Γ ▹ P)
    and_true {P = P} Γ h f p = every_last True Γ P h (record { formula = f; truth = p })

    and_not_true : {P : Tree} (Γ : List Tree) → Every True Γ → TypedFormula rd P → not (holds some P) ≡ true → Every True (Γ ▹ ¬ᵗ P)
    unfolding holds if_eq
    and_not_true {P = P} Γ h f p = every_last True Γ (¬ᵗ P) h (record { formula = TypedFormula.negation f; truth = p })

    -- what a premise adds by replacement
    replaced_formula : {B : Tree} (Γ : List Tree) (t : Tree) → TypedFormula rd B → LL rd (Γ ▹ B ⟨ t ⟩) → TypedFormula rd (B ⟨ t ⟩)
    replaced_formula {B = B} Γ t f d = member_formula (LL-sequent d (B ⟨ t ⟩) (last_in Γ (B ⟨ t ⟩))) (kind_kept 0 t f)

    negated_formula : {P : Tree} (Γ : List Tree) → LL rd (Γ ▹ ¬ᵗ P) → TypedFormula rd P
    unfolding class kind_of if_lt
    negated_formula {P = P} Γ d = not_inside (member_formula (LL-sequent d (¬ᵗ P) (last_in Γ (¬ᵗ P))) refl)

    -- ⊥ is not derived from true formulas
    not_derived : {Γ : List Tree} → LL rd Γ → Every True Γ → ⊥
    unfolding holds if_eq
    not_derived (LL.⊥ s m) h = false≢true (h _ m).truth
    not_derived (LL.¬⊤ s m) h = false≢true (h _ m).truth
    not_derived (LL.Ax {P = P} s m l) h = not_true_both (holds some P) (h _ m).truth (h _ l).truth
    not_derived (LL.≠ s m) h = false≢true (h _ m).truth
    not_derived (LL.Sym s m l) h = false≢true (h _ l).truth
    not_derived (LL.Cut {P = P} s c d e) h =
        truth_cases (holds some P) (λ p. not_derived d (and_true _ h c.formula p)) (λ p. not_derived e (and_not_true _ h c.formula p))
    not_derived (LL.¬¬ {P = P} s m d) h =
        let f = not_inside (not_inside (h _ m).formula) in
        not_derived d (and_true _ h f (not_not (holds some P) (h _ m).truth))
    not_derived (LL.∧ᴸ {P = P} {Q = Q} s m d) h =
        let f = and_inside (h _ m).formula in
        let p = both_parts (holds some P) (holds some Q) (h _ m).truth in
        not_derived d (and_true _ (and_true _ h f.0 p.0) f.1 p.1)
    not_derived (LL.¬⇒ {P = P} {Q = Q} s m d) h =
        let f = implies_inside (not_inside (h _ m).formula) in
        let p = not_either (holds some P) (holds some Q) (h _ m).truth in
        not_derived d (and_not_true _ (and_true _ h f.0 p.0) f.1 p.1)
    not_derived (LL.⇒ {P = P} {Q = Q} s m d e) h =
        let f = implies_inside (h _ m).formula in
        either_cases (holds some P) (holds some Q) (h _ m).truth
        (λ p. not_derived d (and_not_true _ h f.0 p)) (λ p. not_derived e (and_true _ h f.1 p))
    not_derived (LL.¬∧ {P = P} {Q = Q} s m d e) h =
        let f = and_inside (not_inside (h _ m).formula) in
        not_both_cases (holds some P) (holds some Q) (h _ m).truth
        (λ p. not_derived d (and_not_true _ h f.0 p)) (λ p. not_derived e (and_not_true _ h f.1 p))
    not_derived (LL.¬∀ {Γ = Γ} {c = c} {τ = τ} {B = B} s m k fresh d) h =
        let f = universal_inside (not_inside (h _ m).formula) in
        let p = not_either (some τ) (holds some B) (h _ m).truth in
        not_derived d (and_not_true Γ h (negated_formula Γ d) (ap not (truth_kept some 0 (constantᵗ c τ) f) ∙ p.1))
    not_derived (LL.∀ᴸ {Γ = Γ} {τ = τ} {B = B} {t = t} s m k c d) h =
        let f = universal_inside (h _ m).formula in
        let p = either_given (some τ) (holds some B) (h _ m).truth (filled t τ k c) in
        not_derived d (and_true Γ h (replaced_formula Γ t f d) (truth_kept some 0 t f ∙ p))
    not_derived (LL.∀type s m ts cs d) h = no_formula (h _ m).formula
    not_derived (LL.Subst {Γ = Γ} {B = B} {t = t} {u = u} s m f o b p q c v d e) h =
        not_derived e (and_true Γ h (replaced_formula Γ u f e) (truth_kept some 0 u f ∙ sym (truth_kept some 0 t f) ∙ (h _ m).truth))

-- ⊥ is not derived from no formula
pub nothing_from_nothing : {rd : Reader} → LL rd [] → ⊥
nothing_from_nothing d = not_derived (λ τ. true) (λ t τ h c. refl) d (every_0 _)

-- and not from ∀x:τ·⊥ alone, where no closed term has the type τ
pub empty_type_kept : {rd : Reader} {τ : Tree} → ((t : Tree) → HasType rd t τ → Closed t → ⊥) → LL rd (∀ᵗ τ ⊥ᵗ ∷ []) → ⊥
unfolding holds if_eq either class kind_of if_lt
empty_type_kept {rd = rd} {τ = τ} none d =
    let formula : TypedFormula rd (∀ᵗ τ ⊥ᵗ) = member_formula (LL-sequent d (∀ᵗ τ ⊥ᵗ) (here refl)) refl in
    let truth : either (not (not (same τ τ))) false ≡ true = rw (same_self τ) in
    not_derived (λ υ. not (same υ τ)) filled d (every_1 _ (∀ᵗ τ ⊥ᵗ) (record { formula = formula; truth = truth }))
  where
    filled : (t υ : Tree) → HasType rd t υ → Closed t → not (same υ τ) ≡ true
    filled t υ h c = go (same υ τ) refl
      where
        go : (b : Bool) → same υ τ ≡ b → not b ≡ true
        go true e = absurd (none t (subst (HasType rd t) (same_equal υ τ e) h) c)
        go false e = refl

-- in files without constants and functions no closed term has a type
pub no_derivation_without_symbols : {rd : Reader} {τ : Tree} → ((c : ℕ) → (rd c 0 ≡ 7) ⊎ (rd c 0 ≡ 8) → ⊥) → LL rd (∀ᵗ τ ⊥ᵗ ∷ []) → ⊥
no_derivation_without_symbols none = empty_type_kept (λ t h c. let s = symbol_inside h c.no_index in none s.0 s.1)
