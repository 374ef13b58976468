use native.Mathlib.Omega.{arith}
use Prim.Native.Nat.{◌%◌}
use Rattle.derivation_known.specs.Known.{lacks_found, lacks_unknown, lacks_yes}
use Rattle.derivation_known.proofs.facts.lacks_known.Goals as goal

pub returns-then-set_lacks : goal.returns-then-set_lacks
returns-then-set_lacks c = search lacks_yes

pub returns-then-entry_at-c : goal.returns-then-entry_at-c
returns-then-entry_at-c c = lacks_unknown _ _ _

pub returns : goal.returns
returns c =
    lacks_found _ c.lacks_row.result (c.args.key % 2) _ _ _ _ c.lacks_row.ensures (omega arith) c.entry_at.ensures c.if-entry_at-c.false c.entry_at-2.ensures
