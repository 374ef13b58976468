use native.Mathlib.Omega.{arith}
use Rattle.translation_lines.specs.Codes.{first_rule, last_rule, line_within, line_is}
use Rattle.translation_lines.proofs.lines.line_at.Goals as goal

pub overflow_sub-start : goal.overflow_sub-start
overflow_sub-start c = first_rule _ c.requires.0

pub offset_bounds-k : goal.offset_bounds-k
offset_bounds-k c = omega (arith, last_rule c.args.k c.requires.0)

pub bounds-k : goal.bounds-k
bounds-k c = last_rule _ c.requires.0

pub overflow_add-result : goal.overflow_add-result
overflow_add-result c = omega (arith, line_within c.args.k c.requires.0 c.args.r c.requires.1)

pub offset_bounds-start : goal.offset_bounds-start
offset_bounds-start c = omega (arith, line_within c.args.k c.requires.0 c.args.r c.requires.1)

pub bounds-start : goal.bounds-start
bounds-start c = line_within c.args.k c.requires.0 c.args.r c.requires.1

pub returns : goal.returns
returns c = line_is c.args.k c.requires.0 c.args.r c.requires.1
