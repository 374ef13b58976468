use borrow.Author.Rules.{rules}
use Rattle.reader_equality.specs.Keys.{bucket_of}
use Rattle.reader_equality.proofs.keys.bucket_of.Goals as goal

pub returns : goal.returns
unfolding bucket_of
returns c = search rules
