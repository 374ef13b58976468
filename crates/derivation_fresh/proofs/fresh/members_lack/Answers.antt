use borrow.Author.Rules.{rules}
use Rattle.reader.specs.TestLaws.{boths}
use Rattle.derivation_members.specs.Members.{every_member, start_in, chain_below}
use Rattle.derivation_fresh.specs.Tops.{chain_topped}
use Rattle.derivation_fresh.proofs.fresh.members_lack.Goals as goal

pub entry_at-chain-requires : goal.entry_at-chain-requires
entry_at-chain-requires c = search start_in

pub chain_below-requires : goal.chain_below-requires
chain_below-requires c = (search rules, search rules, search chain_topped, search chain_below, search rules)

pub returns-then-not-chain_below : goal.returns-then-not-chain_below
returns-then-not-chain_below c = (search (every_member, boths), search rules)

pub returns : goal.returns
returns c = (search (every_member, boths), search rules)
