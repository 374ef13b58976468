use native.Mathlib.Omega.{arith}
use Rattle.derivation_paths.specs.Paths.{leaves_all, leaves_more}
use Rattle.derivation_paths.proofs.paths.follow.Goals as goal

pub loop-z-init : goal.loop-z-init
loop-z-init c = let p = c.requires in leaves_all _ _ _ _ _ p.1 p.2

pub stepped-left-requires : goal.stepped-left-requires
stepped-left-requires c = let p = c.requires in let l = c.loop-z.invariant in (p.0, l.whole, l.body, omega (arith, l.room, p.3))

pub returns-then-left-z : goal.returns-then-left-z
returns-then-left-z c = leaves_more _ _ _ _ _ _ _ c.loop-z.invariant c.stepped-left.ensures

pub loop-z-smaller : goal.loop-z-smaller
loop-z-smaller c = c.stepped-left.ensures.falls c.if-left-z.false

pub loop-z-preserved : goal.loop-z-preserved
loop-z-preserved c = leaves_more _ _ _ _ _ _ _ c.loop-z.invariant c.stepped-left.ensures
