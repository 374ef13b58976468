use Rattle.tree_lines.specs.LineLaws.{numbers_appended}
use Rattle.tree_lines.proofs.lines.append_numbers.Goals as goal

pub returns : goal.returns
returns c = numbers_appended _ _ _ _ _ _ _ _ c.put_numbers-begin.ensures c.append.ensures
