use Rattle.proof_fresh.specs.Marks.{mark_none, marks}
use Rattle.proof_fresh.proofs.fresh.mark_of.Goals as goal

pub returns-then-j-eq0 : goal.returns-then-j-eq0
returns-then-j-eq0 c = search mark_none

pub returns-then-is_constant : goal.returns-then-is_constant
returns-then-is_constant c = search marks

pub returns-then-part_marked : goal.returns-then-part_marked
returns-then-part_marked c = search marks

pub returns-then-part_marked-2 : goal.returns-then-part_marked-2
returns-then-part_marked-2 c = search marks

pub returns-then-part_marked-3 : goal.returns-then-part_marked-3
returns-then-part_marked-3 c = search marks

pub returns : goal.returns
returns c = search marks
