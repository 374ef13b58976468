use Rattle.reader_closedness.specs.Reaches.{own_none, own_variable}
use Rattle.reader_closedness.proofs.reaches.own_reach.Goals as goal

pub returns-then-k-variable : goal.returns-then-k-variable
returns-then-k-variable c = search own_none

pub returns : goal.returns
returns c = search own_variable
