use mathlib.Core.Path.{refl}
use Rattle.reader.specs.ChainLaws.{next_falls}
use Rattle.reader_references.specs.References.{every_stop, every_more, every_end}
use Rattle.reader_references.proofs.references.every_item.Goals as goal

pub loop-at-init : goal.loop-at-init
loop-at-init c = refl

pub returns-then-not-has_class : goal.returns-then-not-has_class
returns-then-not-has_class c = search every_stop

pub loop-at-smaller : goal.loop-at-smaller
loop-at-smaller c = search next_falls

pub loop-at-preserved : goal.loop-at-preserved
loop-at-preserved c = search every_more

pub returns : goal.returns
returns c = search every_end
