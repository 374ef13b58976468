use Rattle.derivation_members.specs.Members.{agrees_same, agrees_other}
use Rattle.derivation_members.proofs.members.key_agrees.Goals as goal

pub returns-then-wanted : goal.returns-then-wanted
returns-then-wanted c = search agrees_same

pub returns : goal.returns
returns c = search agrees_other
