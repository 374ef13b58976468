use Rattle.derivation_replacement.specs.Last.{in_none, in_sign, in_record}
use Rattle.derivation_replacement.proofs.replace.order_of.Goals as goal

pub returns-then-j-eq0 : goal.returns-then-j-eq0
returns-then-j-eq0 c = search in_none

pub returns-then-body-lt2 : goal.returns-then-body-lt2
returns-then-body-lt2 c = search in_sign

pub returns : goal.returns
returns c = search in_record
