use native.Mathlib.Omega.{arith}
use Rattle.reader_equality.specs.Tables.{zeros_filled}
use Rattle.proof_places.specs.Places.{places_none, bears_whole}
use Rattle.proof_places.specs.Borne.{borne_none}
use Rattle.proof_places.proofs.bears.Goals as goal

pub returns-then-reach_of-eq0 : goal.returns-then-reach_of-eq0
returns-then-reach_of-eq0 c = (bears_whole _ _ _ _ (places_none _ _ _ _ _ c.reach_of.ensures (omega arith)), c.requires.2)

pub bears_at-r-requires : goal.bears_at-r-requires
bears_at-r-requires c = let p = c.requires in (omega arith, p.0, p.1, borne_none _ _ _ p.2)

pub returns : goal.returns
returns c = (bears_whole _ _ _ _ c.bears_at-r.ensures.0, zeros_filled _ _ (c.fill.ensures.after (λ y e. e)))
