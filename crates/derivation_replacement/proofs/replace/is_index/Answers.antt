use Rattle.derivation_replacement.specs.Replaced.{index_other, index_is}
use Rattle.derivation_replacement.proofs.replace.is_index.Goals as goal

pub returns-then-kind_of : goal.returns-then-kind_of
returns-then-kind_of c = search index_other

pub returns : goal.returns
returns c = search index_is
