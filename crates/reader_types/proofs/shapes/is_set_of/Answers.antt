use Rattle.reader_types.specs.SetsAndPairs.{set_other, set_more}
use Rattle.reader_types.proofs.shapes.is_set_of.Goals as goal

pub returns-then-tree_kind : goal.returns-then-tree_kind
returns-then-tree_kind c = search set_other

pub returns : goal.returns
returns c = search set_more
