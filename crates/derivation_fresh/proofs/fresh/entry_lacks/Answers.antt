use borrow.Author.Rules.{rules}
use Rattle.derivation_members.specs.Members.{added_none, added_one}
use Rattle.derivation_fresh.proofs.fresh.entry_lacks.Goals as goal

pub returns-then-e-eq0 : goal.returns-then-e-eq0
returns-then-e-eq0 c = (search added_none, search rules)

pub lacks_below-requires : goal.lacks_below-requires
lacks_below-requires c = let p = c.requires in (search rules, p.1 c.if-e-eq0.false, p.2.far c.if-e-eq0.false, search rules)

pub returns : goal.returns
returns c = (search added_one, search rules)
