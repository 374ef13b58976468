use native.Mathlib.Omega.{arith}
use mathlib.Core.Path.{refl}
use Rattle.translation_write.specs.Copies.{copies_none, copies_more, copies_end}
use Rattle.translation_write.proofs.copies.put_copies.Goals as goal

pub loop-c-init : goal.loop-c-init
loop-c-init c = (refl, copies_none _ _ _ _ _)

pub put_copy-requires : goal.put_copy-requires
put_copy-requires c = omega arith

pub loop-c-preserved : goal.loop-c-preserved
loop-c-preserved c =
    let l = c.loop-c in
    (omega arith, copies_more _ _ _ _ _ _ _ (omega arith) (omega arith) l.invariant.1 c.put_copy.ensures)

pub returns : goal.returns
returns c = let l = c.loop-c in copies_end _ _ _ _ _ _ _ _ (omega arith) (omega arith) l.invariant.1
