-- Laws of refusals by name: one has a number from 1 on.
use Rattle.std.specs.Prelude.{◌≡◌}
use Rattle.std.proofs.Common.{arith}
use Rattle.reader.specs.declared.Fault.{Fault}
use Rattle.reader.specs.declared.Fault.TheVariants.{Length, Header, Kind, Number, Reference, Chain, Weight, Spelling, Name, Typing, Root, Naming, Form, Member, Fit, Fresh, Room, Depth, Buffer}
use Rattle.reader.specs.Refusals.{number_of}

pub number_some : (f : Fault) → number_of f ≡ 0 → ⊥
number_some Length e = omega arith
number_some Header e = omega arith
number_some Kind e = omega arith
number_some Number e = omega arith
number_some Reference e = omega arith
number_some Chain e = omega arith
number_some Weight e = omega arith
number_some Spelling e = omega arith
number_some Name e = omega arith
number_some Typing e = omega arith
number_some Root e = omega arith
number_some Naming e = omega arith
number_some Form e = omega arith
number_some Member e = omega arith
number_some Fit e = omega arith
number_some Fresh e = omega arith
number_some Room e = omega arith
number_some Depth e = omega arith
number_some Buffer e = omega arith
