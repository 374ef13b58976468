-- What both checks ask of a sequent, a list of trees, and of a node's parts and premises.
use Rattle.std.specs.Prelude.{ℕ, List, [], ◌∷◌, ◌++◌, Bool, true, false, not, eqb, get_or, length}
use Rattle.reader.specs.Words.{Reader}
use Rattle.reader.specs.Tests.{both, every}
use Rattle.reader.specs.Kinds.{is_rule}
use Rattle.reader.specs.Trees.{Tree, leaf, same}
use Rattle.reader.specs.Chains.{premises}
use Rattle.reader.specs.Variables.{occurs}

-- Γ and P
infixl 60 ◌▹◌
abbrev pub ◌▹◌ : List Tree → Tree → List Tree
Γ ▹ P = Γ ++ (P ∷ [])

-- part j of a node's parts
abbrev pub part : List Tree → ℕ → Tree
part ps j = get_or ps j leaf

-- t is a member of Γ
unfoldable pub member : Tree → List Tree → Bool
member t [] = false
member t (u ∷ us) = elim (same u t) [ true ↦ true | false ↦ member t us ]

-- "Fresh: c is in no member of the sequent."
unfoldable pub is_fresh : List Tree → ℕ → Bool
is_fresh Γ c = every (λ t. not (occurs c t)) Γ

-- "number or class of premises": node n of a file of kind `mode` has so many premises, each a rule node
unfoldable pub premises_fit : ℕ → Reader → ℕ → ℕ → Bool
premises_fit mode rd n count = both (eqb (length (premises rd n)) count) (every (λ x. is_rule mode (rd x 0)) (premises rd n))
