use Rattle.derivation_replacement.specs.Replaced.{heads_none, heads_some}
use Rattle.derivation_replacement.proofs.replace.heads_fit.Goals as goal

pub returns-then-x-eq0 : goal.returns-then-x-eq0
returns-then-x-eq0 c = search heads_none

pub returns : goal.returns
returns c = search heads_some
