use native.Mathlib.Omega.{arith}
use lib.Dec.{lit≤}
use Rattle.reader_bodies.specs.Places.{zeros_zeros}
use Rattle.reader_places.specs.Tables.{slots_long}
use Rattle.reader_places.proofs.places.number_records.Goals as goal

pub number_all-requires : goal.number_all-requires
number_all-requires c = (omega arith, slots_long 12288 _ 4096 c.requires (lit≤ tt), zeros_zeros 12288)
