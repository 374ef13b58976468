use borrow.Author.Rules.{rules}
use Rattle.proof_members.specs.Makers.{above_zero, first_in, key_none, record_negation, record_plain}
use Rattle.proof_members.proofs.keys.key_of.Goals as goal

pub returns-then-i-eq0 : goal.returns-then-i-eq0
returns-then-i-eq0 c = search key_none

pub negated_key-requires : goal.negated_key-requires
negated_key-requires c = (search rules, search (first_in, above_zero))

pub returns-then-x : goal.returns-then-x
returns-then-x c = search (record_negation, above_zero)

pub returns : goal.returns
returns c = search (record_plain, above_zero)
