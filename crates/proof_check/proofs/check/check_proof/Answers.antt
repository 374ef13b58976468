use native.Mathlib.Omega.{arith}
use mathlib.Core.Path.{refl, sym, ap, ◌∙◌}
use Rattle.std.proofs.lemmas.Result.{err_from_is_err_and}
use Rattle.reader.specs.declared.Answer.{Answer}
use Rattle.reader.specs.RefusalLaws.{number_some}
use Rattle.reader_bodies.specs.Places.{passed_small}
use Rattle.reader_places.specs.Tables.{part_length}
use Rattle.proof_check.specs.Started.{check_refused}
use Rattle.proof_check.proofs.check.check_proof.Goals as goal

pub returns-in_err-obligation_reading : goal.returns-in_err-obligation_reading
returns-in_err-obligation_reading c =
    let p = err_from_is_err_and c.from_residual.result c.from_residual.ensures.1 in
    rw (p.1, p.2) (check_refused _ _ _ c.in_err-obligation_reading.ensures (number_some _))

pub table_size-size-requires : goal.table_size-size-requires
table_size-size-requires c = passed_small _ _ _ c.in_ok-obligation_reading.ensures refl (c.new-files.ensures.2 ∙ c.word_of-m.ensures)

pub slice_bounds-numbers-end : goal.slice_bounds-numbers-end
slice_bounds-numbers-end c = omega (arith, c.table_size-size.ensures)

pub slice_bounds-check_numbered-end : goal.slice_bounds-check_numbered-end
slice_bounds-check_numbered-end c = sym (part_length 4096 _ (omega (arith, c.table_size-size.ensures)))

pub check_numbered-requires : goal.check_numbered-requires
check_numbered-requires c =
    let e = c.new-files.ensures in (
      rw e.0 (ap (λ (x : Answer). x.refusal) (sym c.in_ok-obligation_reading.ensures)),
      rw e.0 (e.2 ∙ c.word_of-m.ensures),
      part_length 4096 _ (omega (arith, c.table_size-size.ensures)) ∙ c.table_size-size.ensures,
    )

pub returns : goal.returns
returns c = let e = c.new-files.ensures in rw (e.0, e.1) at c.check_numbered.ensures
