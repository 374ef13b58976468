use borrow.Author.Rules.{rules}
use native.Mathlib.Omega.{arith}
use Rattle.reader_naming.specs.Totals.{total_none, total_more, total_end}
use Rattle.reader_naming.proofs.count_nodes.Goals as goal

pub loop-j-init : goal.loop-j-init
loop-j-init c = (search total_none, search rules)

pub loop-j-preserved : goal.loop-j-preserved
loop-j-preserved c = (total_more _ _ _ _ _ _ (omega arith) c.loop-j.invariant.0 c.count_node.ensures.1, c.count_node.ensures.0)

pub returns : goal.returns
returns c = total_end _ _ _ _ _ _ (omega arith) (omega arith) c.loop-j.invariant.0
