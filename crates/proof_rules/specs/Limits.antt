-- The limit of members of a sequent, at its edge and one past it: tests of single nodes, and one theorem over their table.
use Rattle.std.specs.Prelude.{ℕ, ◌≡◌, refl, List, [], ◌∷◌, map, replicate}
use Rattle.reader.specs.Words.{word}
use Rattle.reader.specs.Trees.{Tree, ⊥ᵗ, ◌∧ᵗ◌}
use Rattle.reader.specs.Places.{count_of}
use Rattle.reader.specs.Examples.{Words, r, bytes}
use Rattle.proof_rules.specs.Check.{node_fault}
use Rattle.proof_rules.specs.Opened.{open_proofs}

-- a node at a sequent, and its refusal
pub record Test : Type 0 where
  pub node : ℕ
  pub sequent : List Tree
  pub refusal : ℕ

abbrev refuses : Test → ℕ
refuses t = t.refusal

-- the definition's refusals of nodes of one file, one after the other, 0 for none
abbrev refusals_of : List Words → List Test → List ℕ
refusals_of file tests = map (λ (t : Test). node_fault (word (bytes file) [] (count_of (bytes file))) t.sequent t.node) tests

-- 1: ⊥; 2: ⊥∧⊥; 3: rule 32; 4: a link to 3; 5: a link to 2; 6: rule 39 with part 2 over 3; 7: a link to 3 before 4; 8: a link to 1; 9: rule 37 with part 1
-- over 3 twice
abbrev nodes : List Words
nodes = r 1 9 0 0 ∷ r 14 0 0 0 ∷ r 16 1 1 0 ∷ r 32 0 0 0 ∷ r 1 3 0 0 ∷ r 1 2 0 0 ∷ r 39 5 4 0 ∷ r 1 3 0 4 ∷ r 1 1 0 0 ∷ r 37 8 7 0 ∷ []

-- a node at one member ⊥ and n members ⊥∧⊥: 3 has no premises, the premise of 6 adds two members, those of 9 add one each
abbrev at : ℕ → ℕ → ℕ → Test
at node n refusal = record { node = node; sequent = ⊥ᵗ ∷ replicate n (⊥ᵗ ∧ᵗ ⊥ᵗ); refusal = refusal }

abbrev pub limits : List Test
limits =
    -- "a premise's sequent over 1,024 members, repeats counted"
    at 6 1021 0 ∷ at 6 1022 17 ∷ at 9 1022 0 ∷ at 9 1023 17 ∷
    -- no premise, no 17
    at 3 1024 0 ∷ []

pub limits_hold : refusals_of nodes limits ≡ map refuses limits
unfolding open_proofs
limits_hold = refl
