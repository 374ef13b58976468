use mathlib.Core.Path.{refl}
use Rattle.reader_names.specs.Symbols.{all_stop, all_go, all_end}
use Rattle.reader.specs.ChainLaws.{next_falls}
use Rattle.reader_names.proofs.all_have_bytes.Goals as goal

pub loop-c-init : goal.loop-c-init
loop-c-init c = refl

pub returns-then-not-has_bytes : goal.returns-then-not-has_bytes
returns-then-not-has_bytes c = search all_stop

pub loop-c-smaller : goal.loop-c-smaller
loop-c-smaller c = search next_falls

pub loop-c-preserved : goal.loop-c-preserved
loop-c-preserved c = search all_go

pub returns : goal.returns
returns c = search all_end
