use Rattle.tree_lines.specs.LineLaws.{first_part_is}
use Rattle.tree_lines.proofs.lines.first_part.Goals as goal

pub returns : goal.returns
returns c = first_part_is _ _ _ _ c.lower_at-link.ensures c.lower_at.ensures
