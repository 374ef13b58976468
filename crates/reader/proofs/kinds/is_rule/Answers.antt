use Rattle.reader.specs.TestLaws.{ifs}
use Rattle.reader.specs.Kinds.{is_rule}
use Rattle.reader.proofs.kinds.is_rule.Goals as goal

pub returns-then-mode : goal.returns-then-mode
unfolding is_rule
returns-then-mode c = search ifs

pub returns-then-mode-2 : goal.returns-then-mode-2
unfolding is_rule
returns-then-mode-2 c = search ifs

pub returns : goal.returns
unfolding is_rule
returns c = search ifs
