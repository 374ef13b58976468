use borrow.Author.Rules.{rules}
use Rattle.derivation_members.specs.Members.{start_in, chain_below, frame_next}
use Rattle.derivation_fresh.specs.Tops.{rising_start, rising_more, rising_end}
use Rattle.derivation_fresh.proofs.tops.top_of.Goals as goal

pub entry_at-chain-requires : goal.entry_at-chain-requires
entry_at-chain-requires c = search start_in

pub chain_top-a-requires : goal.chain_top-a-requires
chain_top-a-requires c = (search rules, search chain_below, search rules)

pub loop-f-init : goal.loop-f-init
loop-f-init c = search rising_start

pub entry_at-e-requires : goal.entry_at-e-requires
entry_at-e-requires c = search frame_next

pub loop-f-preserved : goal.loop-f-preserved
loop-f-preserved c = search rising_more

pub returns : goal.returns
returns c = (search rising_end, search rules)
