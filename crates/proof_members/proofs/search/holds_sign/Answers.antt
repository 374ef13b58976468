use Rattle.proof_members.specs.Sequents.{member_start, member_none}
use Rattle.proof_members.specs.Signs.{sign_found, sign_more}
use Rattle.proof_members.proofs.search.holds_sign.Goals as goal

pub loop-key-init : goal.loop-key-init
loop-key-init c = search member_start

pub returns-then-is_sign : goal.returns-then-is_sign
returns-then-is_sign c = search sign_found

pub loop-key-preserved : goal.loop-key-preserved
loop-key-preserved c = search sign_more

pub returns : goal.returns
returns c = search member_none
