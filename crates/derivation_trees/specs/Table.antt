-- The table of the keys of records.
use Rattle.std.specs.Prelude.{ℕ, ◌+◌, ◌<◌, ◌≤◌, ◌≡◌, refl, List, length, get_or}
use native.Mathlib.Omega.{arith}
use Rattle.reader.specs.Words.{Reader}
use Rattle.reader.specs.Trees.{Tree, ¬ᵗ◌}
use Rattle.derivation_rules.specs.Erase.{bare_tree}
use Rattle.derivation_trees.specs.Keys.{negations_of, decoded, Normal, Stands}
use Rattle.derivation_trees.specs.Makers.{stands_wider, stands_not}

-- the key of a tree of records below `size`, with fewer ¬ before it
pub record KeyOf (rd : Reader) (size key : ℕ) (t : Tree) : Type 0 where
  pub stands : Stands rd size key t
  pub few : negations_of key < size

-- the table has the keys of the records below n
pub record Keyed (rd : Reader) (keys : List ℕ) (n : ℕ) : Type 0 where
  pub holds : (i : ℕ) → i < n → KeyOf rd (i + 1) (get_or keys i 0) (bare_tree rd i)

-- the table has the keys of all its records
pub record Table (rd : Reader) (keys : List ℕ) : Type 0 where
  pub keyed : Keyed rd keys (length keys)
  pub small : length keys ≤ 262143

key_wider : (rd : Reader) (size more key : ℕ) (t : Tree) → size ≤ more → KeyOf rd size key t → KeyOf rd more key t
key_wider rd size more key t h k = record { stands = stands_wider rd size more key t h k.stands; few = omega (arith, k.few) }

-- an entry among n
pub key_in_lem : (rd : Reader) (keys : List ℕ) (n i size : ℕ) → Keyed rd keys n → i < n → i < size → KeyOf rd size (get_or keys i 0) (bare_tree rd i)
key_in_lem rd keys n i size k p q = key_wider rd (i + 1) size (get_or keys i 0) (bare_tree rd i) (omega arith) (k.holds i p)

-- a key of few negations is far from wrapping
pub key_small : (rd : Reader) (size key : ℕ) (t : Tree) → size ≤ 262143 → KeyOf rd size key t → key < 68719476736
unfolding negations_of
key_small rd size key t h k = omega (arith, k.few)

-- The ways out of `key_of` and `negated`.
pub table_key : (rd : Reader) (keys : List ℕ) (i r : ℕ) → Table rd keys → i < length keys → r ≡ get_or keys i 0 → KeyOf rd (length keys) r (bare_tree rd i)
table_key rd keys i r table h e = rw e (key_in_lem rd keys (length keys) i (length keys) table.keyed h h)

module _ (rd : Reader) (size key : ℕ) (n : Normal rd size key) where
  pub negated_stands : Stands rd size (key + 262144) (¬ᵗ (decoded rd key))
  negated_stands = stands_not rd size key (decoded rd key) (record { normal = n; means = refl })

  pub negated_few : negations_of (key + 262144) ≡ negations_of key + 1
  unfolding negations_of
  negated_few = omega arith

  pub negated_small : negations_of key < 262143 → key + 262144 < 18446744073709551616
  unfolding negations_of
  negated_small h = omega arith
