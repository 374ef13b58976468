-- The ways out of the code that makes the set anew: the rows of facts stay as they were.
use Rattle.std.specs.Prelude.{ℕ, List}
use Rattle.reader.specs.Words.{Reader}
use Rattle.derivation_known.specs.Held.{SameRows, rows_then}
use Rattle.derivation_known.specs.Known.{Facts, Known, facts_rows}

pub facts_gathered : (rd : Reader) (before clear goal chain added : List ℕ) → Known rd before → SameRows before clear → SameRows clear goal → SameRows goal chain →
    SameRows chain added → Facts rd added
facts_gathered rd before clear goal chain added known a b c d =
    facts_rows rd before added (rows_then before chain added (rows_then before goal chain (rows_then before clear goal a b) c) d) known.facts
