use Rattle.programs_lines.specs.LineLaws.{line_ends_in}
use Rattle.programs_lines.proofs.lines.put_line.Goals as goal

pub returns : goal.returns
returns c = line_ends_in _ _ _ _ c.put_numbers.ensures
