use native.Mathlib.Omega.{arith}
use Rattle.reader_bodies.specs.Places.{zeros_zeros, room_for_proof}
use Rattle.reader_places.proofs.places.proof_reading.Goals as goal

pub reading_within-requires : goal.reading_within-requires
reading_within-requires c = (omega arith, omega arith, omega arith, c.requires.0, c.requires.1, room_for_proof _, c.requires.2, zeros_zeros 4096)

pub returns : goal.returns
returns c = c.reading_within.ensures
