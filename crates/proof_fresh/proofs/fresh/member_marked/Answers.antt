use borrow.Author.Rules.{rules}
use Rattle.proof_fresh.specs.Marks.{left_in, right_in, member_left, member_right}
use Rattle.proof_fresh.proofs.fresh.member_marked.Goals as goal

pub is_marked-requires : goal.is_marked-requires
is_marked-requires c = (search rules, left_in _ 0 _ _ c.requires.1, search rules)

pub returns-then-is_marked : goal.returns-then-is_marked
returns-then-is_marked c = search member_left

pub is_marked-requires-2 : goal.is_marked-requires-2
is_marked-requires-2 c = (search rules, right_in _ 0 _ _ c.requires.1, search rules)

pub returns : goal.returns
returns c = search member_right
