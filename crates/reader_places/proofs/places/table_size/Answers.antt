use borrow.Author.Rules.{rules}
use native.Mathlib.Omega.{arith}
use Rattle.reader.specs.Words.{record_count}
use Rattle.reader_places.proofs.places.table_size.Goals as goal

pub overflow_add-all : goal.overflow_add-all
unfolding record_count
overflow_add-all c = search rules

pub returns-then-all-lt4096 : goal.returns-then-all-lt4096
unfolding record_count
returns-then-all-lt4096 c = omega (arith, c.record_count.ensures)

pub returns-else-all-lt4096 : goal.returns-else-all-lt4096
unfolding record_count
returns-else-all-lt4096 c = omega (arith, c.record_count.ensures)
