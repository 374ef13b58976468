use native.Mathlib.Omega.{arith}
use Rattle.derivation_marks.specs.Marks.{key_sign, key_record}
use Rattle.derivation_trees.specs.Parts.{body_in}
use mathlib.Core.Path.{refl}
use Rattle.derivation_marks.proofs.marks.key_marked.Goals as goal

pub returns-then-body-lt2 : goal.returns-then-body-lt2
returns-then-body-lt2 c = search key_sign

pub is_marked-requires : goal.is_marked-requires
is_marked-requires c = let p = c.requires in (p.1, body_in _ _ _ _ _ p.0 refl c.if-body-lt2.false (omega arith), p.2)

pub returns : goal.returns
returns c = search key_record
