-- Names of symbols: the definitions that loops over records follow, and the ways out of the code.
use Rattle.std.specs.Prelude.{ℕ, ◌≡◌, refl, List, ◌∷◌, Bool, true, false, not, eqb, leb, length}
use Rattle.std.proofs.Common.{◌∙◌, arith}
use borrow.Author.Tests.{eq-eqb, ne_eqb, not-true, not-false}
use Rattle.reader.specs.Words.{Reader}
use Rattle.reader.specs.Tests.{both, every}
use Rattle.reader.specs.Trees.{lower}
use Rattle.reader.specs.Chains.{linked}
use Rattle.reader.specs.TreeLaws.{linked_zero, linked_step_lem}
use Rattle.reader.specs.Names.{name_of, name_bytes, characters, name, has_bytes, starts_well, is_name}
use Rattle.reader.specs.Records.{name_length_fits, name_spelled}
use Rattle.reader_characters.specs.Steps.{is_spelled}

-- no record of the chain from record c on is empty
unfoldable pub all_have_bytes : Reader → ℕ → Bool
all_have_bytes rd c = every (has_bytes rd) (linked rd c)

pub fits_is : (rd : Reader) (i c : ℕ) (r : Bool) → c ≡ name_of rd i → r ≡ leb (length (linked rd c)) 4 → r ≡ name_length_fits rd i
unfolding name_length_fits
fits_is rd i c r e q = rw (← e) q

-- The ways out of `has_bytes`.
module _ (rd : Reader) (i a : ℕ) (ea : a ≡ rd i 1) where
  pub bytes_first : (a ≡ 0 → ⊥) → true ≡ has_bytes rd i
  unfolding has_bytes both
  bytes_first p = simp (has_bytes, both, ← ea, ne_eqb a 0 p)

  pub bytes_second : a ≡ 0 → (b : ℕ) → b ≡ rd i 2 → not (eqb b 0) ≡ has_bytes rd i
  unfolding has_bytes both
  bytes_second p b eb = simp (has_bytes, both, ← ea, eq-eqb a 0 p, ← eb)

every_cons : (rd : Reader) (x : ℕ) (xs : List ℕ) → every (has_bytes rd) (x ∷ xs) ≡ elim (has_bytes rd x) [ true ↦ every (has_bytes rd) xs | false ↦ false ]
unfolding every
every_cons rd x xs = refl

-- The ways out of `all_have_bytes`.
module _ (rd : Reader) (first c : ℕ) (inv : all_have_bytes rd first ≡ all_have_bytes rd c) where
  pub all_end : c ≡ 0 → true ≡ all_have_bytes rd first
  unfolding all_have_bytes every
  all_end z = rw (inv, z, linked_zero rd)

  module _ (p : c ≡ 0 → ⊥) (x : Bool) (ex : x ≡ has_bytes rd c) where
    pub all_stop : not x ≡ true → false ≡ all_have_bytes rd first
    unfolding all_have_bytes
    all_stop h = rw (inv, linked_step_lem rd c (omega arith), every_cons) (simp (← ex, not-true x h))

    pub all_go : not x ≡ false → (d : ℕ) → d ≡ lower rd c 3 → all_have_bytes rd first ≡ all_have_bytes rd d
    unfolding all_have_bytes
    all_go h d e = inv ∙ rw (linked_step_lem rd c (omega arith), every_cons, e) (simp (← ex, not-false x h))

-- the characters of a name, from its first record
pub name_from : (rd : Reader) (i c : ℕ) → c ≡ name_of rd i → name rd i ≡ characters (name_bytes rd (linked rd c))
unfolding name
name_from rd i c e = rw (← e)

-- The ways out of `name_stands`.
module _ (rd : Reader) (i c : ℕ) (e : c ≡ name_of rd i) where
  pub stands_none : c ≡ 0 → true ≡ name_spelled rd i
  unfolding name_spelled
  stands_none z = simp (name_spelled, ← e, eq-eqb c 0 z)

  pub stands_some : (r : Bool) → (c ≡ 0 → ⊥) →
      r ≡ both (all_have_bytes rd c) (both (is_spelled (characters (name_bytes rd (linked rd c)))) (starts_well (characters (name_bytes rd (linked rd c))))) → r ≡ name_spelled rd i
  unfolding name_spelled is_name all_have_bytes is_spelled
  stands_some r p q = simp (name_spelled, is_name, name_from rd i c e, ← e, ne_eqb c 0 p) q
