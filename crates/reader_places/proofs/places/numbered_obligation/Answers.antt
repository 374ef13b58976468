use native.Mathlib.Omega.{arith}
use mathlib.Core.Path.{refl}
use lib.Dec.{lit≤}
use Rattle.reader_bodies.specs.Places.{zeros_zeros}
use Rattle.reader_places.specs.Tables.{slots_long}
use Rattle.reader_places.proofs.places.numbered_obligation.Goals as goal

pub number_all-requires : goal.number_all-requires
number_all-requires c = (omega (arith, c.requires.1), slots_long 6144 _ 1024 c.requires.1 (lit≤ tt), zeros_zeros 6144)

pub obligation_body-requires : goal.obligation_body-requires
obligation_body-requires c =
    let s = c.requires.0 in (
      s,
      omega
          (arith, s),
      record { first = refl },
      zeros_zeros 6144,
      c.number_all.ensures.0,
      zeros_zeros 1024,
    )

pub returns : goal.returns
returns c = c.obligation_body.ensures.0
