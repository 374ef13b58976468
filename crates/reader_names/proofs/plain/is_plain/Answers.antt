use mathlib.Core.Path.{refl}
use Rattle.reader_names.specs.Plain.{after_falls, plain_stop, plain_go, plain_end}
use Rattle.reader_names.proofs.plain.is_plain.Goals as goal

pub loop-r-init : goal.loop-r-init
loop-r-init c = refl

pub returns-then-not-is_plain_record : goal.returns-then-not-is_plain_record
returns-then-not-is_plain_record c = search plain_stop

pub loop-r-smaller : goal.loop-r-smaller
loop-r-smaller c = search after_falls

pub loop-r-preserved : goal.loop-r-preserved
loop-r-preserved c = search plain_go

pub returns : goal.returns
returns c = search plain_end
