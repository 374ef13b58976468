use Rattle.derivation_replacement.specs.Replaced.{heads_kinds, heads_atoms}
use Rattle.derivation_replacement.proofs.replace.same_heads.Goals as goal

pub returns-then-k-l : goal.returns-then-k-l
returns-then-k-l c = search heads_kinds

pub returns : goal.returns
returns c = search heads_atoms
