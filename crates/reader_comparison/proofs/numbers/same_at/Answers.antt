use Rattle.reader_comparison.specs.Compare.{from_same}
use Rattle.reader_comparison.proofs.numbers.same_at.Goals as goal

pub returns : goal.returns
returns c = search from_same
