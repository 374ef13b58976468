use Rattle.derivation_marks.specs.Marks.{mark_low, mark_high}
use Rattle.derivation_marks.proofs.marks.is_marked.Goals as goal

pub returns-then-x-c : goal.returns-then-x-c
returns-then-x-c c = search mark_low

pub returns : goal.returns
returns c = search mark_high
