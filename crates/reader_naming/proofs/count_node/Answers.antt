use borrow.Author.Rules.{rules}
use Rattle.reader_naming.specs.Totals.{counted_rule, counted_other}
use Rattle.reader_naming.specs.Counts.{lower_in}
use Rattle.reader_naming.proofs.count_node.Goals as goal

pub pass_chain-requires : goal.pass_chain-requires
pass_chain-requires c = (search lower_in, search lower_in, search rules)

pub returns-then-is_rule : goal.returns-then-is_rule
returns-then-is_rule c = (c.pass_chain.ensures.0, search counted_rule)

pub returns-else-is_rule : goal.returns-else-is_rule
returns-else-is_rule c = (search rules, search counted_other)
