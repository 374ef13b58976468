use Rattle.reader_comparison.specs.Compare.{first_out, first_in}
use Rattle.reader_comparison.proofs.compare.has_both.Goals as goal

pub returns-then-n-i : goal.returns-then-n-i
returns-then-n-i c = search first_out

pub returns : goal.returns
returns c = search first_in
