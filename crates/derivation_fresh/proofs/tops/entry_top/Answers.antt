use borrow.Author.Rules.{rules}
use Rattle.derivation_fresh.specs.Tops.{top_none, top_some, low_some}
use Rattle.derivation_fresh.proofs.tops.entry_top.Goals as goal

pub returns-then-e-eq0 : goal.returns-then-e-eq0
returns-then-e-eq0 c = (search top_none, search rules)

pub returns : goal.returns
returns c = (search top_some, search low_some)
