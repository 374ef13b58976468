use mathlib.Core.Path.{refl}
use Rattle.reader_names.specs.Plain.{after_falls, differ_short, differ_here, differ_go, differ_end}
use Rattle.reader_names.proofs.plain.records_differ.Goals as goal

pub loop-r-init : goal.loop-r-init
loop-r-init c = refl

pub returns-then-s-eq0 : goal.returns-then-s-eq0
returns-then-s-eq0 c = search differ_short

pub returns-then-not-same_bytes : goal.returns-then-not-same_bytes
returns-then-not-same_bytes c = search differ_here

pub loop-r-smaller : goal.loop-r-smaller
loop-r-smaller c = search after_falls

pub loop-r-preserved : goal.loop-r-preserved
loop-r-preserved c = search differ_go

pub returns : goal.returns
returns c = search differ_end
