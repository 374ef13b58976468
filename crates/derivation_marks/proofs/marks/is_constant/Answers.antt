use Rattle.derivation_marks.specs.Marks.{constant_other, constant_kind}
use Rattle.derivation_marks.proofs.marks.is_constant.Goals as goal

pub returns-then-j-c : goal.returns-then-j-c
returns-then-j-c c = search constant_other

pub returns : goal.returns
returns c = search constant_kind
