use borrow.Author.Rules.{rules}
use Rattle.derivation_members.specs.Members.{chain_below}
use Rattle.derivation_gathered.proofs.gathered.include_all.Goals as goal

pub include_chain-requires : goal.include_chain-requires
include_chain-requires c = (search rules, search chain_below, search rules)
