use borrow.Author.Rules.{rules}
use Rattle.proof_members.specs.Signs.{sign_true, not_true_held}
use Rattle.proof_members.proofs.search.holds_not_true.Goals as goal

pub holds_sign-requires : goal.holds_sign-requires
holds_sign-requires c = (search rules, sign_true _)

pub returns : goal.returns
returns c = search not_true_held
