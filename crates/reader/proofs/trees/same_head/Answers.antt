use Rattle.reader.specs.SameLaws.{head_kinds, head_atoms}
use Rattle.reader.proofs.trees.same_head.Goals as goal

pub returns-then-word_at : goal.returns-then-word_at
returns-then-word_at c = search head_kinds

pub returns : goal.returns
returns c = search head_atoms
