use borrow.Author.Rules.{rules}
use Rattle.proof_members.specs.Sequents.{each_taken}
use Rattle.proof_fresh.specs.Marks.{fresh_start, fresh_stop, fresh_more, fresh_end}
use Rattle.proof_fresh.proofs.fresh.none_marked.Goals as goal

pub loop-key-init : goal.loop-key-init
loop-key-init c = search fresh_start

pub member_marked-requires : goal.member_marked-requires
member_marked-requires c = (search rules, search each_taken, search rules)

pub returns-then-member_marked : goal.returns-then-member_marked
returns-then-member_marked c = search fresh_stop

pub loop-key-preserved : goal.loop-key-preserved
loop-key-preserved c = search fresh_more

pub returns : goal.returns
returns c = search fresh_end
