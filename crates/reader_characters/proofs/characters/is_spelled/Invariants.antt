use mathlib.Core.Path.{◌≡◌}
use lib.ListN.{length}
use Rattle.reader.specs.Files.{words}
use Rattle.reader.specs.Chains.{linked}
use Rattle.reader.specs.Names.{name_bytes, characters}
use Rattle.reader_characters.specs.Steps.{Held, spelled, is_spelled}
use Rattle.reader_characters.proofs.characters.is_spelled.Given as goal

abbrev pub invariant-loop-s : goal.invariant-loop-s
invariant-loop-s l =
    (is_spelled (characters (name_bytes (words l.files) (linked (words l.files) l.first))) ≡ is_spelled (spelled (words l.files) l.s)) × Held l.s

abbrev pub decreases-loop-s : goal.decreases-loop-s
decreases-loop-s l = length (spelled (words l.files) l.s)
