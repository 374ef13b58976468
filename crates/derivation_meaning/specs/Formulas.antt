-- The language without types: terms and formulas over the symbols of the files.
use Rattle.std.specs.Prelude.{ℕ, ◌≡◌}
use Rattle.reader.specs.Words.{Reader}
use Rattle.reader.specs.Trees.{Tree, leaf, node, ⊥ᵗ, ◌∧ᵗ◌, ◌⇒ᵗ◌, ¬ᵗ◌, ◌=ᵗ◌}
use Rattle.reader.specs.Notions.{IsTerm, IsFormula}
use Rattle.derivation_rules.specs.Erase.{bare_tree, constantᵇ, ∀ᵇ}

mutual
  -- E: constants, bound variables, pairs, products, powersets, applications, choices
  pub data Term (rd : Reader) : Tree → Type 0 where
    constant : {c : ℕ} → rd c 0 ≡ 7 → Term rd (constantᵇ c)
    variable : {i : ℕ} → Term rd (node 9 i leaf leaf leaf)
    pair : {x y : Tree} → Term rd x → Term rd y → Term rd (node 10 0 x y leaf)
    product : {x y : Tree} → Term rd x → Term rd y → Term rd (node 11 0 x y leaf)
    powerset : {x : Tree} → Term rd x → Term rd (node 12 0 x leaf leaf)
    choice : {s : Tree} → Term rd s → Term rd (node 23 0 s leaf leaf)
    application : {f : ℕ} {x : Tree} → rd f 0 ≡ 8 → Arguments rd x → Term rd (node 13 0 (node 8 f leaf leaf leaf) leaf x)

  -- the chain of arguments of an application
  pub data Arguments (rd : Reader) : Tree → Type 0 where
    none : Arguments rd leaf
    more : {x y : Tree} → Term rd x → Arguments rd y → Arguments rd (node 1 0 x leaf y)

-- P: ⊥, ∧, ⇒, ¬, ∀, =, ∈
pub data Formula (rd : Reader) : Tree → Type 0 where
  false : Formula rd ⊥ᵗ
  conjunction : {P Q : Tree} → Formula rd P → Formula rd Q → Formula rd (P ∧ᵗ Q)
  implication : {P Q : Tree} → Formula rd P → Formula rd Q → Formula rd (P ⇒ᵗ Q)
  negation : {P : Tree} → Formula rd P → Formula rd (¬ᵗ P)
  universal : {B : Tree} → Formula rd B → Formula rd (∀ᵇ B)
  equation : {E F : Tree} → Term rd E → Term rd F → Formula rd (E =ᵗ F)
  membership : {E S : Tree} → Term rd E → Term rd S → Formula rd (node 21 0 E S leaf)

-- Each formula and each term among the records, types removed, is one of the language.
pub record OfLanguage (rd : Reader) : Type 0 where
  pub formulas : (i : ℕ) → IsFormula (bare_tree rd i) → Formula rd (bare_tree rd i)
  pub terms : (i : ℕ) → IsTerm (bare_tree rd i) → Term rd (bare_tree rd i)
