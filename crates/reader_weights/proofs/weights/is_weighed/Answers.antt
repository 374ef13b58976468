use Rattle.reader.specs.TestLaws.{ifs}
use Rattle.reader_weights.specs.Weights.{class_weighed}
use Rattle.reader_weights.proofs.weights.is_weighed.Goals as goal

pub returns-then-c : goal.returns-then-c
unfolding class_weighed
returns-then-c c = search ifs

pub returns-then-c-2 : goal.returns-then-c-2
unfolding class_weighed
returns-then-c-2 c = search ifs

pub returns-then-c-3 : goal.returns-then-c-3
unfolding class_weighed
returns-then-c-3 c = search ifs

pub returns-then-c-4 : goal.returns-then-c-4
unfolding class_weighed
returns-then-c-4 c = search ifs

pub returns-else-c-4 : goal.returns-else-c-4
unfolding class_weighed
returns-else-c-4 c = search ifs
