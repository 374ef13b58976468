use mathlib.Core.Path.{◌≡◌}
use mathlib.Core.Bool.{true}
use lib.ListN.{length}
use Rattle.reader.specs.Files.{words}
use Rattle.reader.specs.Tests.{every}
use Rattle.reader_characters.specs.Steps.{Held, spelled}
use Rattle.reader_names.specs.NameKeys.{spread, name_parts, is_small}
use Rattle.reader_names.proofs.keys.parts_of.Given as goal

abbrev pub invariant-loop-s : goal.invariant-loop-s
invariant-loop-s l =
    (name_parts (words l.files) l.i ≡ spread l.key (spelled (words l.files) l.s)) × (every is_small (spelled (words l.files) l.s) ≡ true) × Held l.s

abbrev pub decreases-loop-s : goal.decreases-loop-s
decreases-loop-s l = length (spelled (words l.files) l.s)
