use native.Mathlib.Omega.{arith}
use Rattle.favashears_pack.specs.Pack.{pack}
use Rattle.favashears_pack.proofs.packed.pack.Goals as goal

pub returns : goal.returns
unfolding pack
returns c = omega arith
