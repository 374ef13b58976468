-- The tables that replacement goes by.
use Rattle.std.specs.Prelude.{ℕ, ◌≤◌, List, length}
use Rattle.reader.specs.Words.{Reader}
use Rattle.derivation_trees.specs.Table.{Table}
use Rattle.derivation_closedness.specs.Reaches.{Reached}

-- the keys of the records, and how far their indices reach
pub record Tables (rd : Reader) (keys reaches : List ℕ) : Type 0 where
  pub table : Table rd keys
  pub room : length keys ≤ length reaches
  pub reached : Reached rd reaches (length reaches)
