use native.Mathlib.Omega.{arith}
use mathlib.Core.Path.{refl, ◌∙◌}
use Rattle.std.proofs.lemmas.Result.{err_from_is_err_and}
use Rattle.reader.specs.RefusalLaws.{number_some}
use Rattle.reader.specs.AnswerLaws.{answer_stop, answer_go}
use Rattle.reader.specs.Places.{reading}
use Rattle.reader_equality.specs.Least.{numbered_one}
use Rattle.reader_bodies.specs.Places.{passed_small, zeros_zeros, room_for_few, room_for_derivation}
use Rattle.reader_places.proofs.places.read_derivation.Goals as goal

pub returns-in_err-obligation_reading : goal.returns-in_err-obligation_reading
unfolding reading
returns-in_err-obligation_reading c =
    let p = err_from_is_err_and c.from_residual.result c.from_residual.ensures.1 in
    rw (p.1, p.2) (answer_stop _ _ _ c.in_err-obligation_reading.ensures (number_some _))

pub reading_within-requires : goal.reading_within-requires
reading_within-requires c =
    let e = c.new-files.ensures in
    let m = e.2 ∙ c.word_of-m.ensures in (
      omega arith,
      omega arith,
      omega arith,
      rw e.0 m,
      passed_small _ _ _ c.in_ok-obligation_reading.ensures refl m,
      room_for_few _ (rw e.1 (omega arith)),
      numbered_one _ _ refl,
      zeros_zeros 1,
    )

pub returns-then-record_count-le3073 : goal.returns-then-record_count-le3073
unfolding reading
returns-then-record_count-le3073 c =
    let e = c.new-files.ensures in
    answer_go _ _ _ _ c.in_ok-obligation_reading.ensures refl (rw (e.0, e.1) at c.reading_within.ensures)

pub reading_within-requires-2 : goal.reading_within-requires-2
reading_within-requires-2 c =
    let e = c.new-files.ensures in
    let m = e.2 ∙ c.word_of-m.ensures in (
      omega arith,
      omega arith,
      omega arith,
      rw e.0 m,
      passed_small _ _ _ c.in_ok-obligation_reading.ensures refl m,
      room_for_derivation _,
      numbered_one _ _ refl,
      zeros_zeros 1,
    )

pub returns : goal.returns
unfolding reading
returns c =
    let e = c.new-files.ensures in
    answer_go _ _ _ _ c.in_ok-obligation_reading.ensures refl (rw (e.0, e.1) at c.reading_within-2.ensures)
