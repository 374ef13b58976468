use mathlib.Core.Path.{◌≡◌}
use Rattle.reader.specs.Files.{words}
use Rattle.reader.specs.Tests.{every}
use Rattle.reader.specs.Chains.{item_trees}
use Rattle.reader.specs.Variables.{is_closed}
use Rattle.proof_fits.proofs.are_closed.Given as goal

abbrev pub invariant-loop-l : goal.invariant-loop-l
invariant-loop-l l =
    every is_closed (item_trees (words l.files) l.c) ≡ every is_closed (item_trees (words l.files) l.l)

abbrev pub decreases-loop-l : goal.decreases-loop-l
decreases-loop-l l = l.l
