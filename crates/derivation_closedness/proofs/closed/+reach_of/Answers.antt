use borrow.Author.Rules.{rules}
use native.Mathlib.Omega.{arith}
use Rattle.derivation_closedness.specs.Parts.{first_low, second_low, third_low}
use Rattle.derivation_closedness.specs.Reaches.{reach_known, reach_none, first_reach, second_reach, third_reach}
use Rattle.derivation_closedness.proofs.closed.+reach_of.Goals as goal

pub returns-then-i-n : goal.returns-then-i-n
returns-then-i-n t c = search reach_known

pub returns-then-i-eq0 : goal.returns-then-i-eq0
returns-then-i-eq0 t c = search reach_none

pub reach_of-a-requires : goal.reach_of-a-requires
reach_of-a-requires t c =
    (first_low _ _ _ _ c.record_at-x.ensures.0 c.parts_in-parts.ensures (omega arith) t (omega arith), c.requires)

pub reach_of-b-requires : goal.reach_of-b-requires
reach_of-b-requires t c =
    (second_low _ _ _ _ c.record_at-x.ensures.0 c.parts_in-parts.ensures (omega arith) t (omega arith), c.requires)

pub reach_of-c-requires : goal.reach_of-c-requires
reach_of-c-requires t c =
    (third_low _ _ _ _ c.record_at-x.ensures.0 c.parts_in-parts.ensures (omega arith) t (omega arith), c.requires)

pub node_reach-requires : goal.node_reach-requires
node_reach-requires t c =
    (omega arith, search rules, search rules, search first_reach, search second_reach, search third_reach)
