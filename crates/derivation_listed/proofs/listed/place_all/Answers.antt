use native.Mathlib.Omega.{arith}
use Rattle.derivation_listed.specs.Listed.{space_less, indexed_none, indexed_end}
use Rattle.derivation_listed.proofs.listed.place_all.Goals as goal

pub loop-i-init : goal.loop-i-init
loop-i-init c = (omega arith, search indexed_none)

pub place-requires : goal.place-requires
place-requires c = let l = c.loop-i in (l.auto.i, space_less _ _ _ _ _ l.auto.slots c.loop-i-test.true c.requires.1, l.invariant.1)

pub returns : goal.returns
returns c = let l = c.loop-i.invariant in indexed_end _ _ _ _ (omega arith) l.0 l.1
