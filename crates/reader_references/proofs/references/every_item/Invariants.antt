use mathlib.Core.Path.{◌≡◌}
use Rattle.reader.specs.Files.{words}
use Rattle.reader.specs.Tests.{every}
use Rattle.reader.specs.Chains.{items}
use Rattle.reader.specs.Records.{has_class}
use Rattle.reader_references.proofs.references.every_item.Given as goal

abbrev pub invariant-loop-at : goal.invariant-loop-at
invariant-loop-at l =
    every (has_class (words l.files) l.c) (items (words l.files) l.j)
    ≡ every (has_class (words l.files) l.c) (items (words l.files) l.at)

abbrev pub decreases-loop-at : goal.decreases-loop-at
decreases-loop-at l = l.at
