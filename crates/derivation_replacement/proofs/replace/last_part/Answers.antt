use Rattle.derivation_replacement.specs.Last.{last_made}
use Rattle.derivation_replacement.proofs.replace.last_part.Goals as goal

pub returns : goal.returns
returns c = let e = c.largest_of.ensures in (search last_made, e.1, e.2)
