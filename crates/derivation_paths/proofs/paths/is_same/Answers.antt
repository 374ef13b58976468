use Rattle.derivation_paths.specs.Paths.{agree_no, agree_keys}
use Rattle.derivation_paths.proofs.paths.is_same.Goals as goal

pub returns-then-d-reach : goal.returns-then-d-reach
returns-then-d-reach c = search agree_no

pub returns : goal.returns
returns c = search agree_keys
