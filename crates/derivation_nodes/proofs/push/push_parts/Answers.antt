use mathlib.Core.Path.{refl}
use Rattle.derivation_nodes.specs.Premised.{next_in, premised_set}
use Rattle.derivation_nodes.proofs.push.push_parts.Goals as goal

pub write-requires : goal.write-requires
write-requires c = let p = c.requires in next_in _ _ _ _ _ p.0 p.1

pub returns : goal.returns
returns c =
    let p = c.requires in premised_set _ _ _ _ _ _ _ _ _ _ _ p.0 p.1 p.2 refl p.3 c.goal_at-goal.ensures p.4 c.chain_length-count.ensures
    c.write.auto.frames c.write.ensures
