use Rattle.tree_lines.specs.LineLaws.{node_line_lem}
use Rattle.tree_lines.proofs.lines.append_node.Goals as goal

pub returns : goal.returns
returns c =
    let line = c.append_numbers.ensures in
    (node_line_lem _ _ _ _ _ _ _ _ _ c.kind_at-kind.ensures c.first_part-part.ensures line.0, line.1)
