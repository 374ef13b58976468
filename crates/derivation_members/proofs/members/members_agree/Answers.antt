use borrow.Author.Rules.{rules}
use Rattle.reader.specs.TestLaws.{boths}
use Rattle.derivation_members.specs.Members.{every_member, frame_in, start_in, chain_below}
use Rattle.derivation_members.proofs.members.members_agree.Goals as goal

pub start_at-s-requires : goal.start_at-s-requires
start_at-s-requires c = search (frame_in, rules)

pub entry_at-c-requires : goal.entry_at-c-requires
entry_at-c-requires c = search start_in

pub chain_agrees-requires : goal.chain_agrees-requires
chain_agrees-requires c = (search rules, search chain_below, search rules)

pub returns-then-not-chain_agrees : goal.returns-then-not-chain_agrees
returns-then-not-chain_agrees c = search (every_member, boths)

pub returns : goal.returns
returns c = search (every_member, boths)
