-- The types of the places of an index, at records, as one step, and the ways out of the code that tests them.
use Rattle.std.specs.Prelude.{ℕ, ◌<◌, ◌≤◌, ◌≡◌, Bool, true, false}
use Rattle.std.proofs.Common.{sym}
use Rattle.reader.specs.Words.{Reader}
use Rattle.reader.specs.Tests.{both, if_true}
use Rattle.reader.specs.Trees.{child, tree, same}
use Rattle.reader.specs.Variables.{bears}
use Rattle.reader.specs.TreeLaws.{tree_step_lem}
use Rattle.reader_closedness.specs.Reach.{reach, bears_node, bears_closed}
use Rattle.proof_replacement.specs.Fits.{index_at, deeper, closed_below}

-- every occurrence of index d in record i bears the type of record t; and so for word w of record i
unfoldable pub bears_at : Reader → ℕ → ℕ → ℕ → Bool
bears_at rd i t d = bears d (tree rd t) (tree rd i)

unfoldable pub bears_child : Reader → ℕ → ℕ → ℕ → ℕ → Bool
bears_child rd i t d w = bears_at rd (child rd i w) t d

-- the types at a record that is not 0
bears_step : (rd : Reader) (i t d : ℕ) → 0 < i → bears_at rd i t d ≡
    if_true (index_at rd i d) (same (tree rd (child rd i 2)) (tree rd t))
    (both (bears_child rd i t d 1) (both (bears_child rd i t (deeper rd i d) 2) (bears_child rd i t d 3)))
unfolding bears_at bears_child index_at deeper
bears_step rd i t d pos = rw (tree_step_lem rd i pos) (bears_node d (tree rd t) _ _ _ _ _)

pub places_none : (rd : Reader) (i t d r : ℕ) → r ≡ reach false (tree rd i) → r ≤ d → true ≡ bears_at rd i t d
unfolding bears_at
places_none rd i t d r er h = sym (bears_closed d (tree rd t) (tree rd i) (closed_below rd i d r er h))

-- The ways out of `bears_open`.
module _ (rd : Reader) (i t d : ℕ) (pos : 0 < i) (r : Bool) (er : r ≡ index_at rd i d) where
  pub place_index : r ≡ true → (x : ℕ) (s : Bool) → x ≡ child rd i 2 → s ≡ same (tree rd x) (tree rd t) → s ≡ bears_at rd i t d
  unfolding if_true
  place_index h x s ex e = rw (bears_step rd i t d pos, ← er, h, ← ex) e

  pub places_more : r ≡ false → (s : Bool) →
      s ≡ both (bears_child rd i t d 1) (both (bears_child rd i t (deeper rd i d) 2) (bears_child rd i t d 3)) → s ≡ bears_at rd i t d
  unfolding if_true
  places_more other s e = rw (bears_step rd i t d pos, ← er, other) e

pub bears_child_lem : (rd : Reader) (i t d w x : ℕ) (r : Bool) → x ≡ child rd i w → r ≡ bears_at rd x t d → r ≡ bears_child rd i t d w
unfolding bears_child
bears_child_lem rd i t d w x r p e = rw (← p) e

-- the second child stands below the binder that the code counted
pub bears_deeper : (rd : Reader) (i t d w e : ℕ) (r : Bool) → e ≡ deeper rd i d → r ≡ bears_child rd i t e w → r ≡ bears_child rd i t (deeper rd i d) w
bears_deeper rd i t d w e r p q = rw (← p) q

pub bears_whole : (rd : Reader) (i t : ℕ) (r : Bool) → r ≡ bears_at rd i t 0 → r ≡ bears 0 (tree rd t) (tree rd i)
unfolding bears_at
bears_whole rd i t r e = e
