use Rattle.reader_types.specs.Types.{powerset_none, powerset_more}
use Rattle.reader_types.proofs.types.powerset_typed.Goals as goal

pub returns-then-tree_kind : goal.returns-then-tree_kind
returns-then-tree_kind c = search powerset_none

pub returns : goal.returns
returns c = search powerset_more
