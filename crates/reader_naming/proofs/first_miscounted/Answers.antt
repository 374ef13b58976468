use native.Mathlib.Omega.{arith}
use mathlib.Core.Path.{refl}
use Rattle.reader.specs.AnswerLaws.{scan_stop, scan_more, scan_end}
use Rattle.reader.specs.RefusalLaws.{number_some}
use Rattle.reader_naming.proofs.first_miscounted.Goals as goal

pub returns-in-Err : goal.returns-in-Err
returns-in-Err c = scan_stop _ _ _ _ _ c.loop-i.invariant (omega arith) _ c.in-Err.ensures (number_some _)

pub loop-i-preserved : goal.loop-i-preserved
loop-i-preserved c = scan_more _ _ _ _ _ c.loop-i.invariant (omega arith) _ c.in_default.ensures refl

pub returns : goal.returns
returns c = scan_end _ _ _ _ _ c.loop-i.invariant (omega arith)
