use native.Mathlib.Omega.{arith}
use Rattle.reader_characters.specs.Laws.{start_none, start_some}
use Rattle.reader_characters.proofs.bytes.start.Goals as goal

pub returns-then-r-eq0 : goal.returns-then-r-eq0
returns-then-r-eq0 c = search start_none

pub overflow_mul-result : goal.overflow_mul-result
overflow_mul-result c = omega (arith, c.fetched-x.ensures.2)

pub overflow_add-result : goal.overflow_add-result
overflow_add-result c = omega (arith, c.fetched-x.ensures.1, c.fetched-x.ensures.2)

pub returns : goal.returns
returns c = let e = c.fetched-x.ensures in start_some _ _ c.if-r-eq0.false _ e.0 e.1 e.2 _ c.smaller.ensures
