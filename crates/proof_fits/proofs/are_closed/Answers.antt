use mathlib.Core.Path.{refl}
use Rattle.proof_references.specs.References.{next_falls}
use Rattle.proof_fits.specs.Fits.{closed_stop, closed_more, closed_end}
use Rattle.proof_fits.proofs.are_closed.Goals as goal

pub loop-l-init : goal.loop-l-init
loop-l-init c = refl

pub returns-then-not-is_closed : goal.returns-then-not-is_closed
returns-then-not-is_closed c = search closed_stop

pub loop-l-smaller : goal.loop-l-smaller
loop-l-smaller c = search next_falls

pub loop-l-preserved : goal.loop-l-preserved
loop-l-preserved c = search closed_more

pub returns : goal.returns
returns c = search closed_end
