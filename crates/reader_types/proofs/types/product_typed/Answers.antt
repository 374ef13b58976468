use Rattle.reader_types.specs.Types.{product_first, product_second, product_more}
use Rattle.reader_types.proofs.types.product_typed.Goals as goal

pub returns-then-tree_kind : goal.returns-then-tree_kind
returns-then-tree_kind c = search product_first

pub returns-then-tree_kind-2 : goal.returns-then-tree_kind-2
returns-then-tree_kind-2 c = search product_second

pub returns : goal.returns
returns c = search product_more
