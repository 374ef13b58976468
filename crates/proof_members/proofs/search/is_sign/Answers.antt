use Rattle.proof_members.specs.Signs.{sign_other, sign_kind}
use Rattle.proof_members.proofs.search.is_sign.Goals as goal

pub returns-then-key-negation : goal.returns-then-key-negation
returns-then-key-negation c = search sign_other

pub returns : goal.returns
returns c = search sign_kind
