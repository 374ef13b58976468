use native.Mathlib.Omega.{arith}
use Prim.Native.Nat.{◌%◌}
use mathlib.Core.Path.{refl}
use lib.ListN.{length-set}
use Rattle.derivation_known.specs.Known.{lacks_kept, lacks_none}
use Rattle.derivation_known.proofs.facts.keep_lacks.Goals as goal

pub returns-then-known-at : goal.returns-then-known-at
returns-then-known-at c = lacks_none _ _ _

pub bounds-known-at-2 : goal.bounds-known-at-2
bounds-known-at-2 c = simp length-set (omega arith)

pub returns : goal.returns
returns c = lacks_kept _ c.lacks_row.result (c.args.key % 2) _ _ _ c.lacks_row.ensures refl (omega arith) (omega arith)
