use native.Mathlib.Omega.{arith}
use mathlib.Core.Path.{refl}
use Rattle.translation_values.specs.Values.{value_none, value_part, value_conclusion, value_own}
use Rattle.translation_values.proofs.values.value_of.Goals as goal

pub returns-then-code-lt16 : goal.returns-then-code-lt16
returns-then-code-lt16 c = search value_none

pub returns-then-code-lt32 : goal.returns-then-code-lt32
returns-then-code-lt32 c = value_part _ _ _ _ _ _ (omega arith) (omega arith) c.part_at.ensures

pub returns-then-code-lt96 : goal.returns-then-code-lt96
returns-then-code-lt96 c = c.inner_value.ensures _ _

pub returns-then-code-lt128 : goal.returns-then-code-lt128
returns-then-code-lt128 c = value_conclusion _ _ _ _ _ _ (omega arith) (omega arith) _ c.premise_at-premise.ensures c.entry_at.ensures

pub returns : goal.returns
returns c = value_own _ _ _ _ _ _ (omega arith) refl
