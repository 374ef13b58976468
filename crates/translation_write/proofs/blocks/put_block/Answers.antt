use native.Mathlib.Omega.{arith}
use mathlib.Core.Path.{refl}
use Rattle.translation_write.specs.Blocks.{place_kept, count_is, lines_none, lines_more, lines_end}
use Rattle.translation_write.proofs.blocks.put_block.Goals as goal

pub lines_of-count-requires : goal.lines_of-count-requires
lines_of-count-requires c = rw c.word_at-k.ensures c.requires.rule

pub loop-r-init : goal.loop-r-init
loop-r-init c = (
  count_is _ _ _ c.word_at-k.ensures c.lines_of-count.ensures,
  refl,
  lines_none _ c.args.ends.now _ _ _ _,
)

pub put_line-requires : goal.put_line-requires
put_line-requires c = (
  place_kept _ _ _ _ _ _ c.loop-r.invariant.1 c.requires,
  omega arith,
)

pub loop-r-preserved : goal.loop-r-preserved
loop-r-preserved c =
    let l = c.loop-r in (
      l.invariant.0,
      omega arith,
      lines_more _ _ _ _ _ _ _ _ _ (omega (arith, c.requires.room)) l.invariant.2 c.put_line.ensures,
    )

pub returns : goal.returns
returns c = let l = c.loop-r in lines_end _ _ _ _ _ _ _ _ _ (omega arith) (omega arith) l.invariant.0 l.invariant.2
