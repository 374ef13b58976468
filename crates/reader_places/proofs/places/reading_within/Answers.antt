use Rattle.reader_bodies.specs.Places.{zeros_zeros, zeros_cleared, zeros_blank}
use Rattle.reader_places.proofs.places.reading_within.Goals as goal

pub second_reading-requires : goal.second_reading-requires
second_reading-requires g c =
    let p = c.requires in (p.2, p.3, p.4, p.5, zeros_zeros _, zeros_blank _, zeros_cleared _, zeros_cleared _, p.6, p.7)

pub returns : goal.returns
returns g c = c.second_reading.ensures
