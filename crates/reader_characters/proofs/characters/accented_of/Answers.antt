use Rattle.std.proofs.Common.{arith, ap, not}
use Rattle.reader_characters.specs.Spelling.{accented_below, accented_out, accented_times, accented_divided, accented_in}
use Rattle.reader_characters.proofs.characters.accented_of.Goals as goal

pub returns-then-not-is_between : goal.returns-then-not-is_between
returns-then-not-is_between c = search accented_out

pub returns-then-b-eq151 : goal.returns-then-b-eq151
returns-then-b-eq151 c = search accented_times

pub returns-then-b-eq183 : goal.returns-then-b-eq183
returns-then-b-eq183 c = search accented_divided

pub overflow_add-result : goal.overflow_add-result
overflow_add-result c = omega (arith, accented_below _ _ c.is_between.ensures (ap not c.if-not-is_between.false))

pub returns : goal.returns
returns c = search accented_in
