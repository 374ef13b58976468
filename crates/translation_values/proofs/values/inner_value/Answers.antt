use Rattle.std.proofs.Common.{arith, refl}
use Rattle.translation_values.specs.Values.{value_inside, value_deeper, value_type, value_bottom}
use Rattle.translation_values.proofs.values.inner_value.Goals as goal

pub returns-then-code-ge80 : goal.returns-then-code-ge80
returns-then-code-ge80 c = λ table base. value_bottom _ table _ base _ _ (omega arith) (omega arith) refl

pub returns-then-code-lt48 : goal.returns-then-code-lt48
returns-then-code-lt48 c = λ table base. value_inside _ table _ base _ _ (omega arith) (omega arith) _ c.part_at-part.ensures c.word_at.ensures

pub returns-then-code-lt64 : goal.returns-then-code-lt64
returns-then-code-lt64 c =
    λ table base. value_deeper _ table _ base _ _ (omega arith) (omega arith) _ _ c.part_at-part.ensures c.word_at-inside.ensures c.word_at-then-code-lt64.ensures

pub returns : goal.returns
returns c = λ table base. value_type _ table _ base _ _ (omega arith) (omega arith) _ _ c.part_at-part.ensures c.word_at-inside.ensures c.type_at.ensures
