use borrow.Author.Rules.{rules}
use Rattle.derivation_members.specs.Members.{chain_below}
use Rattle.derivation_gathered.specs.Gathered.{facts_gathered}
use Rattle.derivation_gathered.proofs.gathered.gather.Goals as goal

pub gather_chain-requires : goal.gather_chain-requires
gather_chain-requires c = (search rules, search chain_below)

pub close-requires : goal.close-requires
close-requires c =
    facts_gathered _ _ _ _ _ _ c.requires.2 c.clear_of.ensures c.put_key.ensures c.gather_chain.ensures c.gather_added.ensures
