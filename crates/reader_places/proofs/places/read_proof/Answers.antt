use native.Mathlib.Omega.{arith}
use mathlib.Core.Path.{refl, sym, ◌∙◌}
use Rattle.std.proofs.lemmas.Result.{err_from_is_err_and}
use Rattle.reader.specs.RefusalLaws.{number_some}
use Rattle.reader.specs.AnswerLaws.{answer_stop, answer_go}
use Rattle.reader.specs.Places.{reading}
use Rattle.reader_bodies.specs.Places.{passed_small}
use Rattle.reader_places.specs.Tables.{part_length}
use Rattle.reader_places.proofs.places.read_proof.Goals as goal

pub returns-in_err-obligation_reading : goal.returns-in_err-obligation_reading
unfolding reading
returns-in_err-obligation_reading c =
    let p = err_from_is_err_and c.from_residual.result c.from_residual.ensures.1 in
    rw (p.1, p.2) (answer_stop _ _ _ c.in_err-obligation_reading.ensures (number_some _))

pub table_size-size-requires : goal.table_size-size-requires
table_size-size-requires c = passed_small _ _ _ c.in_ok-obligation_reading.ensures refl (c.new-files.ensures.2 ∙ c.word_of-m.ensures)

pub slice_bounds-numbers-end : goal.slice_bounds-numbers-end
slice_bounds-numbers-end c = omega (arith, c.table_size-size.ensures)

pub slice_bounds-numbered_reading-end : goal.slice_bounds-numbered_reading-end
slice_bounds-numbered_reading-end c = sym (part_length 4096 _ (omega (arith, c.table_size-size.ensures)))

pub numbered_reading-requires : goal.numbered_reading-requires
numbered_reading-requires c =
    let e = c.new-files.ensures in
    let m = e.2 ∙ c.word_of-m.ensures in
    let l = part_length 4096 c.table_size-size.result (omega (arith, c.table_size-size.ensures)) in
    (rw e.0 m, passed_small _ _ _ c.in_ok-obligation_reading.ensures refl m, omega (arith, l, c.table_size-size.ensures))

pub returns : goal.returns
unfolding reading
returns c =
    let e = c.new-files.ensures in
    answer_go _ _ _ _ c.in_ok-obligation_reading.ensures refl (rw (e.0, e.1) at c.numbered_reading.ensures)
