use Rattle.derivation_members.specs.Members.{holds_key}
use Rattle.derivation_members.proofs.members.holds.Goals as goal

pub returns : goal.returns
returns c = search holds_key
