use Rattle.std.proofs.Common.{◌∙◌}
use Rattle.programs_lines.specs.LineLaws.{ends_in_equal}
use Rattle.programs_derivation_answer.proofs.answer.put_answer.Goals as goal

pub returns : goal.returns
returns c = ends_in_equal _ _ _ _ _ (c.of.ensures ∙ c.check_derivation-checked.ensures) c.put_line.ensures
