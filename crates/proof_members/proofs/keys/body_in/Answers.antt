use borrow.Author.Rules.{rules}
use Rattle.proof_members.specs.Makers.{number_small, first_in, second_in, record_equation, record_single}
use Rattle.proof_members.proofs.keys.body_in.Goals as goal

pub equation_key-requires : goal.equation_key-requires
equation_key-requires c = (search rules, search first_in, search second_in)

pub returns-then-x : goal.returns-then-x
returns-then-x c = search record_equation

pub pack-requires : goal.pack-requires
pack-requires c = (search rules, search number_small, search rules)

pub returns : goal.returns
returns c = search record_single
