use Rattle.derivation_paths.specs.Paths.{under_binder, under_other}
use Rattle.derivation_paths.proofs.paths.depth_under.Goals as goal

pub returns-then-k : goal.returns-then-k
returns-then-k c = search under_binder

pub returns-else-k : goal.returns-else-k
returns-else-k c = search under_other
