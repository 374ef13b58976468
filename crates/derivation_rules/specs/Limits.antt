-- The limits of the walk, at their edge and one past it: tests of single nodes, and one theorem over their table.
use Rattle.std.specs.Prelude.{ℕ, ◌≡◌, refl, List, [], ◌∷◌, map, replicate}
use Rattle.reader.specs.Trees.{⊥ᵗ, ◌⇒ᵗ◌}
use Rattle.derivation_rules.specs.Rules.{State, state_at}
use Rattle.reader.specs.Words.{word}
use Rattle.reader.specs.Places.{count_of}
use Rattle.reader.specs.Examples.{Words, r, bytes}
use Rattle.derivation_rules.specs.Check.{node_fault}
use Rattle.derivation_rules.specs.Opened.{open_derivations}

-- a node that is to derive a sequent, and its refusal
pub record Test : Type 0 where
  pub node : ℕ
  pub state : State
  pub refusal : ℕ

abbrev refuses : Test → ℕ
refuses t = t.refusal

-- the definition's refusals of nodes of one file, one after the other, 0 for none
abbrev refusals_of : List Words → List Test → List ℕ
refusals_of file tests = map (λ (t : Test). node_fault (word (bytes file) [] (count_of (bytes file))) t.state t.node) tests

-- 1: BR3; 2: a link to it; 3: R3 over it
abbrev nodes : List Words
nodes = r 1 3 0 0 ∷ r 66 0 0 0 ∷ r 1 1 0 0 ∷ r 73 0 2 0 ∷ []

-- BR3 at depth d
abbrev deep : ℕ → ℕ → Test
deep d refusal = record { node = 1; state = state_at (⊥ᵗ ∷ []) ⊥ᵗ d; refusal = refusal }

-- R3 where the sequent has n members
abbrev wide : ℕ → ℕ → Test
wide n refusal = record { node = 3; state = state_at (replicate n ⊥ᵗ) (⊥ᵗ ⇒ᵗ ⊥ᵗ) 1; refusal = refusal }

abbrev pub limits : List Test
limits =
    -- "over 8,192 nodes from the root to this one, both counted"
    deep 8192 0 ∷ deep 8193 18 ∷
    -- "(2,048 in derivations)"
    wide 2047 0 ∷ wide 2048 17 ∷
    -- both: 17, as 18 is the last test of a node (A38)
    record { node = 3; state = state_at (replicate 2048 ⊥ᵗ) (⊥ᵗ ⇒ᵗ ⊥ᵗ) 8193; refusal = 17 } ∷ []

pub limits_hold : refusals_of nodes limits ≡ map refuses limits
unfolding open_derivations
limits_hold = refl
