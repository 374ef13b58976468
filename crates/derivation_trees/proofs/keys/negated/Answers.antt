use native.Mathlib.Omega.{arith}
use Rattle.derivation_trees.specs.Table.{negated_stands, negated_few, negated_small}
use Rattle.derivation_trees.proofs.keys.negated.Goals as goal

pub overflow_add-result : goal.overflow_add-result
overflow_add-result c = omega (arith, negated_small _ _ _ c.requires.0 c.requires.1)

pub returns : goal.returns
returns c = (negated_stands _ _ _ c.requires.0, negated_few _ _ _ c.requires.0)
