use Rattle.reader_closedness.specs.Filled.{own_other, own_itself}
use Rattle.reader_closedness.proofs.fill.own_in.Goals as goal

pub returns-then-v-variable : goal.returns-then-v-variable
returns-then-v-variable c = search own_other

pub returns : goal.returns
returns c = search own_itself
