use native.Mathlib.Omega.{arith}
use Rattle.reader_closedness.specs.Reaches.{reached_end, index_below}
use Rattle.reader_closedness.proofs.tests.indices_below.Goals as goal

pub known_reach-requires : goal.known_reach-requires
known_reach-requires c = (omega arith, reached_end _ _ _ _ (omega arith) c.requires)

pub returns : goal.returns
returns c = search index_below
