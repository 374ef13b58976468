use borrow.Author.Rules.{rules}
use Rattle.derivation_fresh.specs.Tops.{top_known, top_own, low_own}
use Rattle.derivation_fresh.proofs.tops.key_top.Goals as goal

pub returns-then-lacks_known : goal.returns-then-lacks_known
returns-then-lacks_known c = (search top_known, search rules)

pub returns : goal.returns
returns c = (search top_own, search low_own)
