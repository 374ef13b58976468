use Rattle.reader_types.specs.SetsAndPairs.{set_pair_other, set_pair_more}
use Rattle.reader_types.proofs.shapes.is_set_of_pair.Goals as goal

pub returns-then-tree_kind : goal.returns-then-tree_kind
returns-then-tree_kind c = search set_pair_other

pub returns : goal.returns
returns c = search set_pair_more
