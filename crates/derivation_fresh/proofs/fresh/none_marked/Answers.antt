use borrow.Author.Rules.{rules}
use Rattle.reader.specs.TestLaws.{boths}
use Rattle.derivation_fresh.specs.Fresh.{fresh_members, marked_to}
use Rattle.derivation_fresh.specs.Tops.{goal_topped, goal_normal}
use Rattle.derivation_fresh.proofs.fresh.none_marked.Goals as goal

pub lacks_below-requires : goal.lacks_below-requires
lacks_below-requires c = (search marked_to, search goal_normal, search goal_topped, search rules)

pub returns-then-not-lacks_below : goal.returns-then-not-lacks_below
returns-then-not-lacks_below c = (search (fresh_members, boths), search rules)

pub members_lack-requires : goal.members_lack-requires
members_lack-requires c = (search rules, search rules, search rules, search marked_to, search rules)

pub returns : goal.returns
returns c = (search (fresh_members, boths), search rules)
