-- One record's kind, and what its words refer to.
use Rattle.std.specs.Prelude.{ℕ, ◌<◌, ◌≡◌}
use Rattle.std.proofs.Common.{arith}
use Rattle.reader.specs.Words.{Reader}
use Rattle.reader.specs.Tests.{if_lt}
use Rattle.reader.specs.Trees.{lower}
use Rattle.reader.specs.TreeLaws.{lower_below}
use Rattle.reader.specs.declared.Record.{Record}
use Rattle.reader.specs.Fetched.{RecordIs}
use Rattle.proof_references.specs.declared.References.{References}

-- r has the kind of record i and the smaller records that its words refer to
pub record ReferencesAre (rd : Reader) (i : ℕ) (r : References) : Type 0 where
  pub kind_is : r.kind ≡ rd i 0
  pub first_is : r.first ≡ lower rd i 1
  pub second_is : r.second ≡ lower rd i 2
  pub third_is : r.third ≡ lower rd i 3

-- as the code puts it together
pub references_are : (rd : Reader) (i : ℕ) (v : Record) (x y z : ℕ) → RecordIs rd i v → x ≡ if_lt v.a i v.a 0 → y ≡ if_lt v.b i v.b 0 → z ≡ if_lt v.c i v.c 0 →
    ReferencesAre rd i (record { kind = v.kind; first = x; second = y; third = z })
unfolding lower
references_are rd i v x y z e ex ey ez =
    record { kind_is = e.kind_is; first_is = rw (← e.a_is) ex; second_is = rw (← e.b_is) ey; third_is = rw (← e.c_is) ez }

-- a chain's next link is a smaller record
pub next_falls : (rd : Reader) (l : ℕ) (link : References) → (l ≡ 0 → ⊥) → ReferencesAre rd l link → link.third < l
next_falls rd l link h is = omega (arith, is.third_is, lower_below rd l 3 (omega arith))
