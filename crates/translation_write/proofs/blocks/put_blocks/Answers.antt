use native.Mathlib.Omega.{arith}
use mathlib.Core.Path.{refl}
use Rattle.translation_write.specs.Nodes.{room_kept, blocks_none, blocks_more, blocks_end}
use Rattle.translation_write.proofs.blocks.put_blocks.Goals as goal

pub loop-c-init : goal.loop-c-init
loop-c-init c = (refl, blocks_none _ _ _ _ _)

pub put_node-requires : goal.put_node-requires
put_node-requires c = let p = c.requires in (room_kept _ _ _ _ _ c.loop-c.invariant.0 p.0, p.1, omega arith, omega arith)

pub loop-c-preserved : goal.loop-c-preserved
loop-c-preserved c =
    let l = c.loop-c in
    (omega arith, blocks_more _ _ _ _ _ _ _ c.requires.0 (omega arith) l.invariant.1 c.put_node.ensures)

pub returns : goal.returns
returns c = let l = c.loop-c in blocks_end _ _ _ _ _ _ _ (omega arith) (omega arith) l.invariant.1
