use Rattle.proof_members.specs.Makers.{negated_made}
use Rattle.proof_members.proofs.keys.negated_key.Goals as goal

pub returns : goal.returns
returns c = search negated_made
