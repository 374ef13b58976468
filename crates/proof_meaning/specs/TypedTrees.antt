-- The typed language of document 000, with its `choice` (paper 02, U3): types, terms of a type, formulas and polymorphic formulas, over the symbols of the
-- files. Trees may be open: a bound variable carries its type, and closedness is said apart.
use Rattle.std.specs.Prelude.{ℕ, ◌≤◌, ◌≡◌, List, [], ◌∷◌, map, length}
use Rattle.reader.specs.Words.{Reader}
use Rattle.reader.specs.Trees.{Tree, leaf, node, tree, kind_of, ⊥ᵗ, ⊤ᵗ, ◌∧ᵗ◌, ◌⇒ᵗ◌, ¬ᵗ◌, ∀ᵗ, ◌=ᵗ◌, setᵗ, pairᵗ}
use Rattle.reader.specs.Variables.{instance}
use Rattle.reader.specs.Typing.{type_of}
use Rattle.reader.specs.Notions.{Every, IsType, IsTerm, IsFormula, TypesBelow, Bears}
use Rattle.reader_meaning.specs.Signs.{constantᵗ, for_typesᵗ}

-- A type: a given type of the files, a set type, a pair type, a type variable.
pub data TypeOver (rd : Reader) : Tree → Type 0 where
  given : {s : ℕ} → rd s 0 ≡ 3 → TypeOver rd (node 3 s leaf leaf leaf)
  set : {τ : Tree} → TypeOver rd τ → TypeOver rd (setᵗ τ)
  pair : {τ υ : Tree} → TypeOver rd τ → TypeOver rd υ → TypeOver rd (pairᵗ τ υ)
  variable : {a : ℕ} → TypeOver rd (node 6 a leaf leaf leaf)

-- A "chain of types", as a tree, with the types in it.
pub data Types (rd : Reader) : Tree → List Tree → Type 0 where
  none : Types rd leaf []
  more : {τ x : Tree} {τs : List Tree} → TypeOver rd τ → Types rd x τs → Types rd (node 1 0 τ leaf x) (τ ∷ τs)

-- Record c is a constant of type τ: "A constant's type has no variable."
pub record IsConstant (rd : Reader) (c : ℕ) (τ : Tree) : Type 0 where
  pub kind : rd c 0 ≡ 7
  pub typed : tree rd (rd c 1) ≡ τ
  pub type : TypeOver rd τ
  pub no_variable : TypesBelow 0 τ

-- Record f is a function of m type parameters, its signature σs "result first": "Signatures use only variables below their parameter count."
pub record IsFunction (rd : Reader) (f m : ℕ) (σs : List Tree) : Type 0 where
  pub kind : rd f 0 ≡ 8
  pub parameters : rd f 2 ≡ m
  pub signature : Types rd (tree rd (rd f 1)) σs
  pub variables : Every (TypesBelow m) σs

mutual
  -- t is a term of type τ, by the sentences on typing of paper 01 and of paper 02, U3
  pub data HasType (rd : Reader) : Tree → Tree → Type 0 where
    -- "A constant is itself a term."
    constant : {c : ℕ} {τ : Tree} → IsConstant rd c τ → HasType rd (constantᵗ c τ) τ
    -- a bound variable, with the type that it carries
    variable : {i : ℕ} {τ : Tree} → TypeOver rd τ → HasType rd (node 9 i leaf τ leaf) τ
    -- "a pair of a τ and a υ is Pair(τ,υ)"
    pair : {x y τ υ : Tree} → HasType rd x τ → HasType rd y υ → HasType rd (node 10 0 x y (pairᵗ τ υ)) (pairᵗ τ υ)
    -- "a product of Set(τ), Set(υ) is Set(Pair(τ,υ))"
    product : {x y τ υ : Tree} →
        HasType rd x (setᵗ τ) → HasType rd y (setᵗ υ) → HasType rd (node 11 0 x y (setᵗ (pairᵗ τ υ))) (setᵗ (pairᵗ τ υ))
    -- "a powerset of Set(τ) is Set(Set(τ))"
    powerset : {x τ : Tree} → HasType rd x (setᵗ τ) → HasType rd (node 12 0 x (setᵗ (setᵗ τ)) leaf) (setᵗ (setᵗ τ))
    -- "an application fits its signature with the type arguments put in": as many type arguments as parameters, own type and types of the arguments those of
    -- the signature, one by one
    application : {f : ℕ} {ts x own : Tree} {αs τs σs : List Tree} →
        IsFunction rd f (length αs) σs → Types rd ts (own ∷ αs) → Arguments rd x τs → own ∷ τs ≡ map (instance αs) σs →
        HasType rd (node 13 0 (node 8 f leaf leaf leaf) ts x) own
    -- "s is of type Set(τ)", own type τ
    choice : {s τ : Tree} → HasType rd s (setᵗ τ) → HasType rd (node 23 0 s τ leaf) τ

  -- The "chain of arguments" of an application, as a tree, with the types of the arguments.
  pub data Arguments (rd : Reader) : Tree → List Tree → Type 0 where
    none : Arguments rd leaf []
    more : {t x τ : Tree} {τs : List Tree} → HasType rd t τ → Arguments rd x τs → Arguments rd (node 1 0 t leaf x) (τ ∷ τs)

-- A well-typed formula.
pub data TypedFormula (rd : Reader) : Tree → Type 0 where
  false : TypedFormula rd ⊥ᵗ
  true : TypedFormula rd ⊤ᵗ
  conjunction : {P Q : Tree} → TypedFormula rd P → TypedFormula rd Q → TypedFormula rd (P ∧ᵗ Q)
  implication : {P Q : Tree} → TypedFormula rd P → TypedFormula rd Q → TypedFormula rd (P ⇒ᵗ Q)
  negation : {P : Tree} → TypedFormula rd P → TypedFormula rd (¬ᵗ P)
  -- "In ∀, each occurrence bound by it bears its type."
  universal : {τ B : Tree} → TypeOver rd τ → TypedFormula rd B → Bears τ 0 B → TypedFormula rd (∀ᵗ τ B)
  -- "= needs equal types"
  equation : {t u τ : Tree} → HasType rd t τ → HasType rd u τ → TypedFormula rd (t =ᵗ u)
  -- "x ∈ s needs s of type Set(τ) for x of τ"
  membership : {x s τ : Tree} → HasType rd x τ → HasType rd s (setᵗ τ) → TypedFormula rd (node 21 0 x s leaf)

-- A polymorphic formula, kind 22: "count 1 to 4, formula", and the formula well typed.
pub data PolymorphicFormula (rd : Reader) : Tree → Type 0 where
  for_all_types : {m : ℕ} {P : Tree} → 1 ≤ m → m ≤ 4 → TypedFormula rd P → PolymorphicFormula rd (for_typesᵗ m P)

-- Each type, term, formula and polymorphic formula among the records is well typed, a term of the type that it carries.
pub record TypedRecords (rd : Reader) : Type 0 where
  pub types : (i : ℕ) → IsType (tree rd i) → TypeOver rd (tree rd i)
  pub terms : (i : ℕ) → IsTerm (tree rd i) → HasType rd (tree rd i) (type_of (tree rd i))
  pub formulas : (i : ℕ) → IsFormula (tree rd i) → TypedFormula rd (tree rd i)
  pub polymorphic : (i : ℕ) → kind_of (tree rd i) ≡ 22 → PolymorphicFormula rd (tree rd i)
