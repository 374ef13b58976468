use borrow.Author.Rules.{rules}
use Rattle.proof_rows.specs.Grown.{parts_in, room_first, room_last, premise_added}
use Rattle.proof_rows.proofs.adds.add_premise.Goals as goal

pub add_one-i-requires : goal.add_one-i-requires
add_one-i-requires c = (search rules, search room_first, search parts_in)

pub add_one-requires : goal.add_one-requires
add_one-requires c = (search rules, search room_last, search parts_in)

pub returns : goal.returns
returns c = search premise_added
