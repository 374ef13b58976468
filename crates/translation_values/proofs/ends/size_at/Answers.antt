use borrow.Author.Tests.{not-false}
use mathlib.Core.Path.{sym, ◌∙◌}
use Rattle.translation_values.specs.Ends.{sized_other, sized_rule}
use Rattle.std.proofs.Common.{ap, not}
use Rattle.translation_values.proofs.ends.size_at.Goals as goal

pub returns-then-not-is_rule : goal.returns-then-not-is_rule
returns-then-not-is_rule c = search sized_other

pub lines_of-requires : goal.lines_of-requires
lines_of-requires c = sym c.is_rule.ensures ∙ not-false _ (ap not c.if-not-is_rule.false)

pub returns : goal.returns
returns c = search sized_rule
