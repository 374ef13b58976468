use Rattle.proof_replacement.specs.Fits.{index_other, index_is}
use Rattle.proof_replacement.proofs.is_index.Goals as goal

pub returns-then-word_at : goal.returns-then-word_at
returns-then-word_at c = search index_other

pub returns : goal.returns
returns c = search index_is
