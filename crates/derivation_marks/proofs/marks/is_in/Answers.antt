use Rattle.derivation_marks.specs.Marks.{in_none, in_node, eithers}
use Rattle.derivation_marks.proofs.marks.is_in.Goals as goal

pub returns-then-j-eq0 : goal.returns-then-j-eq0
returns-then-j-eq0 c = search in_none

pub returns-then-is_constant : goal.returns-then-is_constant
returns-then-is_constant c = search (in_node, eithers)

pub returns-then-part_marked : goal.returns-then-part_marked
returns-then-part_marked c = search (in_node, eithers)

pub returns-then-part_marked-2 : goal.returns-then-part_marked-2
returns-then-part_marked-2 c = search (in_node, eithers)

pub returns : goal.returns
returns c = search (in_node, eithers)
