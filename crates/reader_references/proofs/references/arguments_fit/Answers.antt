use borrow.Author.Rules.{rules}
use Rattle.reader.specs.Records.{arguments_fit}
use Rattle.reader_references.proofs.references.arguments_fit.Goals as goal

pub returns : goal.returns
unfolding arguments_fit
returns c = search rules
