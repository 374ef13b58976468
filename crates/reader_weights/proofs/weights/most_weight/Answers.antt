use Rattle.reader.specs.TestLaws.{ifs}
use Rattle.reader.specs.Records.{most_weight}
use Rattle.reader_weights.proofs.weights.most_weight.Goals as goal

pub returns-then-mode : goal.returns-then-mode
unfolding most_weight
returns-then-mode c = search ifs

pub returns-else-mode : goal.returns-else-mode
unfolding most_weight
returns-else-mode c = search ifs
