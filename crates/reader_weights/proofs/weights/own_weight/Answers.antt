use Rattle.reader.specs.TestLaws.{trues}
use Rattle.reader_weights.specs.Weights.{class_weight}
use Rattle.reader_weights.proofs.weights.own_weight.Goals as goal

pub returns-then-is_weighed : goal.returns-then-is_weighed
unfolding class_weight
returns-then-is_weighed c = search trues

pub returns-else-is_weighed : goal.returns-else-is_weighed
unfolding class_weight
returns-else-is_weighed c = search trues
