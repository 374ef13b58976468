use borrow.Author.Rules.{rules}
use Rattle.derivation_members.specs.Needs.{goal_normal, only_none, only_one}
use Rattle.derivation_needs.proofs.needs.only_goal.Goals as goal

pub returns-then-k-ne64 : goal.returns-then-k-ne64
returns-then-k-ne64 c = search only_none

pub members_agree-requires : goal.members_agree-requires
members_agree-requires c = (search rules, search rules, search goal_normal, search rules)

pub returns : goal.returns
returns c = search only_one
