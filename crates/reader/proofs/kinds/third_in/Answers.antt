use mathlib.Core.Path.{refl}
use Rattle.reader.specs.KindLaws.{unpacked}
use Rattle.reader.proofs.kinds.third_in.Goals as goal

pub returns : goal.returns
unfolding unpacked
returns c = refl
