use borrow.Author.Rules.{rules}
use Rattle.reader_equality.specs.Keys.{side_of}
use Rattle.reader_equality.proofs.keys.side_of.Goals as goal

pub returns : goal.returns
unfolding side_of
returns c = search rules
