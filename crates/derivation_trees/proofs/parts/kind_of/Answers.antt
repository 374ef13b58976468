use Rattle.derivation_trees.specs.Parts.{kind_not, kind_none, kind_bottom, kind_record}
use Rattle.derivation_trees.proofs.parts.kind_of.Goals as goal

pub returns-then-key-ge262144 : goal.returns-then-key-ge262144
returns-then-key-ge262144 c = search kind_not

pub returns-then-key-eq0 : goal.returns-then-key-eq0
returns-then-key-eq0 c = search kind_none

pub returns-then-key-eq1 : goal.returns-then-key-eq1
returns-then-key-eq1 c = search kind_bottom

pub returns : goal.returns
returns c = search kind_record
