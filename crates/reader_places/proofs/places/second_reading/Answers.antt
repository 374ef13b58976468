use native.Mathlib.Omega.{arith}
use Rattle.std.proofs.Common.{ap, not}
use Rattle.reader.specs.Files.{words}
use Rattle.reader_bodies.specs.Places.{refused_is, reading_length, reading_header, reading_small, reading_rest, room_fits}
use Rattle.reader_places.proofs.places.second_reading.Goals as goal

pub returns-then-not-length_fits : goal.returns-then-not-length_fits
returns-then-not-length_fits c = reading_length _ _ _ _ c.length_fits.ensures (ap not c.if-not-length_fits.true) _ (refused_is _ _ _ c.refused.ensures)

pub returns-then-not-counts_fit : goal.returns-then-not-counts_fit
returns-then-not-counts_fit c =
    reading_header _ _ _ _ c.length_fits.ensures (ap not c.if-not-length_fits.false) _ c.counts_fit.ensures (ap not c.if-not-counts_fit.true) _ (refused_is _ _ _ c.refused-then-not-counts_fit.ensures)

pub second_body-requires : goal.second_body-requires
second_body-requires c =
    let p = c.requires in let s = reading_small _ _ _ _
    c.length_fits.ensures (ap not c.if-not-length_fits.false) _
    c.counts_fit.ensures (ap not c.if-not-counts_fit.false) _ p.2 in
    (p.0, room_fits _ _ _ _ _ _ _ p.3 s.0 s.1, omega (arith, s.1, p.3.weights s.0), omega (arith, s.1, p.3.names s.0), omega (arith, s.1, p.3.links s.0), p.4, p.5, p.6, p.7, p.8, p.9)

pub returns : goal.returns
unfolding words
returns c =
    reading_rest _ _ _ _
    c.length_fits.ensures
    (ap not c.if-not-length_fits.false) _
    c.counts_fit.ensures
    (ap not c.if-not-counts_fit.false) _
    c.requires.1 _ c.second_body.ensures.0
