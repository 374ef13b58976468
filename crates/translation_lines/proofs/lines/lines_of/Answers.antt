use native.Mathlib.Omega.{arith}
use Rattle.translation_lines.specs.Codes.{first_rule, last_rule, lines_many}
use Rattle.translation_lines.proofs.lines.lines_of.Goals as goal

pub overflow_sub-result : goal.overflow_sub-result
overflow_sub-result c = first_rule _ c.requires

pub offset_bounds-k : goal.offset_bounds-k
offset_bounds-k c = omega (arith, last_rule c.args.k c.requires)

pub bounds-k : goal.bounds-k
bounds-k c = last_rule _ c.requires

pub returns : goal.returns
returns c = lines_many _ c.requires
