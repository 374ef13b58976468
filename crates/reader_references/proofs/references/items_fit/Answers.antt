use Rattle.reader_references.specs.Items.{items_function, items_other, items_types, items_both}
use Rattle.reader_references.proofs.references.items_fit.Goals as goal

pub returns-then-x : goal.returns-then-x
returns-then-x c = search items_function

pub returns-then-x-2 : goal.returns-then-x-2
returns-then-x-2 c = search items_other

pub returns-then-not-every_item : goal.returns-then-not-every_item
returns-then-not-every_item c = search items_types

pub returns : goal.returns
returns c = search items_both
