use native.Mathlib.Omega.{arith}
use Rattle.reader_weights.specs.Weights.{part_low, part_weighs}
use Rattle.reader_weights.proofs.weights.part_weight.Goals as goal

pub entry-requires : goal.entry-requires
entry-requires c = omega (arith, part_low _ _ _ _ c.part_in.ensures c.requires.0)

pub returns : goal.returns
returns c = (search part_weighs, c.entry.ensures.1)
