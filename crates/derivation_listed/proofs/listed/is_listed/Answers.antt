use Rattle.derivation_listed.specs.Listed.{listed_is}
use Rattle.derivation_listed.proofs.listed.is_listed.Goals as goal

pub returns : goal.returns
returns c = search listed_is
