use borrow.Author.Rules.{rules}
use Rattle.derivation_known.specs.Held.{closed_other, closed_parts}
use Rattle.derivation_known.specs.Known.{facts_put}
use Rattle.derivation_known.proofs.set.close_record.Goals as goal

pub returns-then-not-is_held : goal.returns-then-not-is_held
returns-then-not-is_held c = (search rules, search closed_other)

pub returns : goal.returns
returns c = (search facts_put, search closed_parts)
