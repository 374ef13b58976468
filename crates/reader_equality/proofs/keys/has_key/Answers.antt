use borrow.Author.Rules.{rules}
use Rattle.reader_equality.specs.Keys.{other_kind, same_kind}
use Rattle.reader_equality.specs.Shapes.{shape_kind}
use Rattle.reader_equality.proofs.keys.has_key.Goals as goal

pub key_in-requires : goal.key_in-requires
key_in-requires c = search (rules, shape_kind)

pub returns-then-x-key : goal.returns-then-x-key
returns-then-x-key c = search same_kind

pub returns-else-x-key : goal.returns-else-x-key
returns-else-x-key c = search other_kind
