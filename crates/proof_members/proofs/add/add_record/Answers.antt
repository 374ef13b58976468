use Rattle.proof_members.specs.Added.{stored}
use Rattle.proof_members.proofs.add.add_record.Goals as goal

pub returns : goal.returns
returns c = search stored
