use Rattle.derivation_marks.specs.Marks.{mark_far, mark_none, mark_part}
use Rattle.derivation_marks.proofs.marks.part_marked.Goals as goal

pub returns-then-j-a : goal.returns-then-j-a
returns-then-j-a c = search mark_far

pub returns-then-not-is_marked : goal.returns-then-not-is_marked
returns-then-not-is_marked c = search mark_none

pub returns : goal.returns
returns c = search mark_part
