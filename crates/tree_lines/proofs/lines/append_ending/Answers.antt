use Rattle.tree_lines.specs.LineLaws.{ending_none, ending_refused}
use Rattle.tree_lines.proofs.lines.append_ending.Goals as goal

pub returns-then-a-eq0 : goal.returns-then-a-eq0
returns-then-a-eq0 c = ending_none _ _ _ c.if-a-eq0.true

pub returns : goal.returns
returns c = ending_refused _ _ _ _ _ _ _ c.if-a-eq0.false c.append-numbers.ensures c.append_numbers.ensures.0
