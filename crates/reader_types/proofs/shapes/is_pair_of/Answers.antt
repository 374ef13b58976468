use Rattle.reader_types.specs.SetsAndPairs.{pair_other, pair_more, lower_same}
use Rattle.reader.specs.TestLaws.{boths}
use Rattle.reader_types.proofs.shapes.is_pair_of.Goals as goal

pub returns-then-tree_kind : goal.returns-then-tree_kind
returns-then-tree_kind c = search pair_other

pub returns-then-not-same_at : goal.returns-then-not-same_at
returns-then-not-same_at c = search (pair_more, boths, lower_same)

pub returns : goal.returns
returns c = search (pair_more, boths, lower_same)
