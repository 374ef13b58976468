use native.Mathlib.Omega.{arith}
use mathlib.Core.Path.{refl, sym, ◌∙◌}
use Rattle.std.proofs.lemmas.Result.{err_from_is_err_and}
use Rattle.reader.specs.RefusalLaws.{number_some}
use Rattle.reader.specs.Files.{words}
use Rattle.reader_bodies.specs.Places.{passed_small}
use Rattle.reader_places.specs.Tables.{part_length}
use Rattle.proof_check.specs.Started.{proof_refused, check_walked, entering, part_zeros}
use Rattle.proof_check.proofs.check.check_numbered.Goals as goal

pub number_records-requires : goal.number_records-requires
number_records-requires c = omega (arith, c.requires.2)

pub proof_reading-requires : goal.proof_reading-requires
proof_reading-requires c = (
  c.requires.1,
  passed_small _ _ _ refl
      c.requires.0 c.requires.1,
  c.number_records.ensures,
)

pub returns-in_err-proof_reading : goal.returns-in_err-proof_reading
returns-in_err-proof_reading c =
    let p = err_from_is_err_and c.from_residual.result c.from_residual.ensures.1 in
    rw (p.1, p.2) (proof_refused _ _ c.requires.0 _ c.in_err-proof_reading.ensures (number_some _))

pub overflow_mul-reaches : goal.overflow_mul-reaches
overflow_mul-reaches c = omega (arith, c.requires.2, c.number_records.auto.numbers)

pub slice_bounds-reaches-end : goal.slice_bounds-reaches-end
slice_bounds-reaches-end c = omega (arith, c.requires.2, c.number_records.auto.numbers)

pub slice_bounds-walk_proof-end : goal.slice_bounds-walk_proof-end
slice_bounds-walk_proof-end c =
    sym (part_length 8192 _ (omega
    (arith, c.requires.2, c.number_records.auto.numbers)))

pub slice_bounds-scratch-end : goal.slice_bounds-scratch-end
slice_bounds-scratch-end c =
    omega (
      arith,
      c.requires.2,
      c.number_records.auto.numbers,
    )

pub slice_bounds-walk_proof-end-3 : goal.slice_bounds-walk_proof-end-3
slice_bounds-walk_proof-end-3 c =
    sym (part_length 4096 _ (omega (
      arith,
      c.requires.2,
      c.number_records.auto.numbers,
    )))

pub walk_proof-requires : goal.walk_proof-requires
unfolding words
walk_proof-requires c =
    let p = c.requires in
    let l = c.number_records.auto.numbers in entering _ _ p.0 _
    c.in_ok-proof_reading.ensures refl _ _ p.1 p.2 _ _ _ l refl
    (part_length 4096 _ (omega (
      arith,
      c.requires.2,
      c.number_records.auto.numbers,
    )) ∙ l) (part_zeros _ _ l)
    c.number_records.ensures

pub returns : goal.returns
unfolding words
returns c =
    check_walked _ _
    c.requires.0 _
    c.in_ok-proof_reading.ensures
    refl _ _
    c.requires.1 c.walk_proof.ensures
