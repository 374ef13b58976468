use native.Mathlib.Omega.{arith}
use Rattle.derivation_tables.specs.Tables.{digit_last, digit_more}
use Rattle.derivation_tables.proofs.tables.+digit.Goals as goal

pub returns-then-j-eq0 : goal.returns-then-j-eq0
returns-then-j-eq0 t c = search digit_last

pub digit-requires : goal.digit-requires
digit-requires t c = (omega arith, tt)

pub returns : goal.returns
returns t c = search digit_more
