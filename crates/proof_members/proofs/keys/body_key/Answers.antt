use Rattle.proof_members.specs.Makers.{body_none}
use Rattle.proof_members.proofs.keys.body_key.Goals as goal

pub returns-then-i-eq0 : goal.returns-then-i-eq0
returns-then-i-eq0 c = search body_none
