use Rattle.reader_references.specs.References.{chains_function, chains_other, chains_types, chains_both}
use Rattle.reader_references.proofs.references.item_chains_fit.Goals as goal

pub returns-then-x : goal.returns-then-x
returns-then-x c = search chains_function

pub returns-then-x-2 : goal.returns-then-x-2
returns-then-x-2 c = search chains_other

pub returns-then-not-types_fit : goal.returns-then-not-types_fit
returns-then-not-types_fit c = search chains_types

pub returns : goal.returns
returns c = search chains_both
