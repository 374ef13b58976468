use Rattle.proof_fresh.specs.Marks.{marked_start, marked_more, marked_end}
use Rattle.proof_fresh.proofs.fresh.mark_all.Goals as goal

pub loop-j-init : goal.loop-j-init
loop-j-init c = search marked_start

pub loop-j-preserved : goal.loop-j-preserved
loop-j-preserved c = search marked_more

pub returns : goal.returns
returns c = search marked_end
