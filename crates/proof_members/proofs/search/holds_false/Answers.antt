use borrow.Author.Rules.{rules}
use Rattle.proof_members.specs.Signs.{sign_false, false_held}
use Rattle.proof_members.proofs.search.holds_false.Goals as goal

pub holds_sign-requires : goal.holds_sign-requires
holds_sign-requires c = (search rules, sign_false _)

pub returns : goal.returns
returns c = search false_held
