use native.Mathlib.Omega.{arith}
use Rattle.derivation_known.specs.Included.{includes_there, includes_no, includes_none, includes_all}
use Rattle.std.proofs.Common.{ap, not}
use Rattle.derivation_known.proofs.set.+include.Goals as goal

pub returns-then-is_held : goal.returns-then-is_held
returns-then-is_held t c = includes_there _ _ _ _ c.requires c.is_held.ensures c.if-is_held.true

pub returns-then-left-eq0 : goal.returns-then-left-eq0
returns-then-left-eq0 t c = includes_no _ _ _ _ c.requires (λ i h. h)

pub returns-then-j-eq0 : goal.returns-then-j-eq0
returns-then-j-eq0 t c = includes_none _ _ _ _ _ c.requires c.if-j-eq0.true c.put.ensures c.is_held-then-j-eq0.ensures

pub overflow_sub-left : goal.overflow_sub-left
overflow_sub-left t c = omega (arith, c.if-left-eq0.false)

pub include-requires : goal.include-requires
include-requires t c = (omega (arith, c.decreases, c.if-left-eq0.false), c.requires)

pub returns-then-not-include : goal.returns-then-not-include
returns-then-not-include t c = let f = c.include.ensures in includes_no _ _ _ _ f.known f.kept

pub overflow_sub-left-2 : goal.overflow_sub-left-2
overflow_sub-left-2 t c = omega (arith, c.if-left-eq0.false)

pub include-requires-2 : goal.include-requires-2
include-requires-2 t c = (omega (arith, c.decreases, c.if-left-eq0.false), c.include.ensures.known)

pub returns-then-not-include-2 : goal.returns-then-not-include-2
returns-then-not-include-2 t c =
    let f = c.include.ensures in let g = c.include-2.ensures in includes_no _ _ _ _ g.known (λ i h. g.kept i (f.kept i h))

pub overflow_sub-left-3 : goal.overflow_sub-left-3
overflow_sub-left-3 t c = omega (arith, c.if-left-eq0.false)

pub include-requires-3 : goal.include-requires-3
include-requires-3 t c = (omega (arith, c.decreases, c.if-left-eq0.false), c.include-2.ensures.known)

pub returns-then-not-include-3 : goal.returns-then-not-include-3
returns-then-not-include-3 t c =
    let f = c.include.ensures in let g = c.include-2.ensures in let h = c.include-3.ensures in includes_no _ _ _ _ h.known (λ i e. h.kept i (g.kept i (f.kept i e)))

pub returns : goal.returns
returns t c =
    includes_all _ _ _ _ _ _ _ _ c.record_at-x.ensures _ c.parts_in-parts.ensures _ c.include.ensures (ap not c.if-not-include.false) _ c.include-2.ensures (ap not c.if-not-include-2.false) _ c.include-3.ensures (ap not c.if-not-include-3.false) c.put-2.ensures _ c.is_held-2.ensures
