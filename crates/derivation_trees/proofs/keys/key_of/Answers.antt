use Rattle.std.proofs.Common.{refl}
use Rattle.derivation_trees.specs.Table.{table_key}
use Rattle.derivation_trees.proofs.keys.key_of.Goals as goal

pub returns : goal.returns
returns c = let p = c.requires in table_key _ _ _ _ p.0 p.1 refl
