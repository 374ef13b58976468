use Rattle.reader_equality.specs.Least.{number_is}
use Rattle.reader_comparison.proofs.numbers.number_of.Goals as goal

pub returns : goal.returns
returns c = search number_is
