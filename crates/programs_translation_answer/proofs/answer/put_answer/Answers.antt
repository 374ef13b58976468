use native.Mathlib.Omega.{arith}
use Rattle.programs_translation_answer.specs.Shown.{shown}
use Rattle.programs_translation_answer.proofs.answer.put_answer.Goals as goal

pub returns : goal.returns
returns c =
    let numbers = c.numbers-length.ensures in
    shown _ _ _ _ _ _ _ _ _ _ _ c.translate-translated.ensures numbers.0 numbers.1 c.put_translation-begin.ensures (omega arith)
