use borrow.Author.Rules.{rules}
use Rattle.reader.specs.Words.{word_from}
use Rattle.reader.proofs.records.word_from.Goals as goal

pub returns : goal.returns
unfolding word_from
returns c = search rules
