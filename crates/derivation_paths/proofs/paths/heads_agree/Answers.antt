use Rattle.derivation_paths.specs.Paths.{heads_differ, heads_same}
use Rattle.derivation_paths.proofs.paths.heads_agree.Goals as goal

pub returns-then-p-q : goal.returns-then-p-q
returns-then-p-q c = search heads_differ

pub returns-then-p : goal.returns-then-p
returns-then-p c = search heads_differ

pub returns : goal.returns
returns c = search heads_same
