use native.Mathlib.Omega.{arith}
use Rattle.reader_names.specs.Taken.{names_none}
use Rattle.reader_bodies.specs.Places.{blank_filled}
use Rattle.reader_bodies.specs.Tables.{weights_then}
use Rattle.reader_bodies.proofs.bodies.second_records.Goals as goal

pub enter_all-requires : goal.enter_all-requires
enter_all-requires c = let p = c.requires in (omega arith, names_none _ _ p.3)

pub weigh_all-requires : goal.weigh_all-requires
weigh_all-requires c = let p = c.requires in (omega arith, blank_filled _ _ p.4)

pub first_fault-requires : goal.first_fault-requires
first_fault-requires c =
    let p = c.requires in (
      omega arith,
      omega arith,
      c.weigh_all.ensures.filled,
      p.5,
      omega arith,
      c.enter_all.ensures,
      p.6,
    )

pub returns : goal.returns
returns c =
    let f = c.first_fault.ensures in (
      f.0,
      f.1,
      f.2,
      weights_then _ _ _ _ _ _ _ _ _ f.0
          c.weigh_all.ensures f.3,
    )
