use Rattle.proof_members.specs.Sequents.{member_start, member_none, key_found, key_more}
use Rattle.proof_members.proofs.search.holds.Goals as goal

pub loop-other-init : goal.loop-other-init
loop-other-init c = search member_start

pub returns-then-other-key : goal.returns-then-other-key
returns-then-other-key c = search key_found

pub loop-other-preserved : goal.loop-other-preserved
loop-other-preserved c = search key_more

pub returns : goal.returns
returns c = search member_none
