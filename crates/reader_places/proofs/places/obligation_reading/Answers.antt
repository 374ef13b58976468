use native.Mathlib.Omega.{arith}
use Prim.Native.Nat.{◌+◌}
use mathlib.Core.Path.{sym}
use Rattle.std.proofs.Common.{ap, not}
use Rattle.reader.specs.Files.{words}
use Rattle.reader_bodies.specs.Places.{refused_is, obligation_length, obligation_header, obligation_small, obligation_rest}
use Rattle.reader_places.specs.Tables.{part_length}
use Rattle.reader_places.proofs.places.obligation_reading.Goals as goal

pub returns-then-not-length_fits : goal.returns-then-not-length_fits
returns-then-not-length_fits c = obligation_length _ _ c.length_fits.ensures (ap not c.if-not-length_fits.true) _ (refused_is _ _ _ c.refused.ensures)

pub returns-then-not-header_fits : goal.returns-then-not-header_fits
returns-then-not-header_fits c =
    obligation_header _ _ c.length_fits.ensures (ap not c.if-not-length_fits.false) _ c.header_fits.ensures (ap not c.if-not-header_fits.true) _ (refused_is _ _ _ c.refused-then-not-header_fits.ensures)

pub overflow_add-size : goal.overflow_add-size
overflow_add-size c =
    omega (
      arith,
      obligation_small _ _ c.length_fits.ensures (ap not c.if-not-length_fits.false) _
          c.header_fits.ensures (ap not c.if-not-header_fits.false) _ c.word_of-m.ensures,
    )

pub slice_bounds-numbers-end : goal.slice_bounds-numbers-end
slice_bounds-numbers-end c =
    omega (
      arith,
      obligation_small _ _ c.length_fits.ensures (ap not c.if-not-length_fits.false) _
          c.header_fits.ensures (ap not c.if-not-header_fits.false) _ c.word_of-m.ensures,
    )

pub slice_bounds-numbered_obligation-end : goal.slice_bounds-numbered_obligation-end
slice_bounds-numbered_obligation-end c =
    sym (part_length 1024 _ (omega (
      arith,
      obligation_small _ _ c.length_fits.ensures
          (ap not c.if-not-length_fits.false) _ c.header_fits.ensures (ap not c.if-not-header_fits.false) _ c.word_of-m.ensures,
    )))

pub numbered_obligation-requires : goal.numbered_obligation-requires
numbered_obligation-requires c =
    let s = obligation_small _ _ c.length_fits.ensures (ap not c.if-not-length_fits.false) _
    c.header_fits.ensures (ap not c.if-not-header_fits.false) _ c.word_of-m.ensures in
    let l = part_length 1024 (c.word_of-m.result + 1) (omega (arith, s)) in
    (omega (arith, s, c.new-files.ensures.2), omega (arith, s, l))

pub returns : goal.returns
unfolding words
returns c =
    let e = c.new-files.ensures in
    obligation_rest _ _ c.length_fits.ensures
    (ap not c.if-not-length_fits.false) _ c.header_fits.ensures
    (ap not c.if-not-header_fits.false) _ c.word_of-m.ensures _ (rw (e.0, e.1, e.2) at c.numbered_obligation.ensures)
