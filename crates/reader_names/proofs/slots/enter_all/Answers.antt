use Rattle.std.proofs.Common.{arith}
use Rattle.reader_names.specs.Taken.{names_end}
use Rattle.reader_names.proofs.slots.enter_all.Goals as goal

pub loop-i-init : goal.loop-i-init
loop-i-init c = (omega arith, c.requires.1)

pub returns : goal.returns
returns c = let l = c.loop-i.invariant in names_end _ _ _ _ l.0 (omega arith) l.1
