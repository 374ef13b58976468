use borrow.Author.Rules.{rules}
use Rattle.reader.specs.Words.{record_count}
use Rattle.reader.proofs.words.record_count.Goals as goal

pub returns : goal.returns
unfolding record_count
returns c = search rules
