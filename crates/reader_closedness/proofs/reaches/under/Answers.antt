use Rattle.reader_closedness.specs.Reaches.{under_type, under_none, under_other, under_binder}
use Rattle.reader_closedness.proofs.reaches.under.Goals as goal

pub returns-then-types : goal.returns-then-types
returns-then-types c = search under_type

pub returns-then-k : goal.returns-then-k
returns-then-k c = search under_other

pub returns-then-y-eq0 : goal.returns-then-y-eq0
returns-then-y-eq0 c = search under_none

pub returns : goal.returns
returns c = search under_binder
