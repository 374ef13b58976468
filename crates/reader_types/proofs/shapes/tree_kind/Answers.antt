use Rattle.reader_types.specs.SetsAndPairs.{tree_kind_none, tree_kind_some}
use Rattle.reader_types.proofs.shapes.tree_kind.Goals as goal

pub returns-then-i-eq0 : goal.returns-then-i-eq0
returns-then-i-eq0 c = search tree_kind_none

pub returns : goal.returns
returns c = search tree_kind_some
