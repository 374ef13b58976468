use native.Mathlib.Omega.{arith}
use Rattle.translation_file.specs.Derivation.{start_fits, file_put}
use Rattle.translation_file.proofs.derivation.put_file.Goals as goal

pub overflow_add-start : goal.overflow_add-start
overflow_add-start c = omega (arith, start_fits _ _ _ _ _ c.requires.0 c.requires.4)

pub overflow_sub-start : goal.overflow_sub-start
overflow_sub-start c = omega (arith, start_fits _ _ _ _ _ c.requires.0 c.requires.4)

pub overflow_add-start-2 : goal.overflow_add-start-2
overflow_add-start-2 c = omega (arith, start_fits _ _ _ _ _ c.requires.0 c.requires.4)

pub put_copies-requires : goal.put_copies-requires
put_copies-requires c =
    let p = c.requires in omega (
      arith,
      p.0.few,
      p.0.count,
      start_fits _ _ _ _ _ c.requires.0
          c.requires.4,
    )

pub overflow_sub-start-2 : goal.overflow_sub-start-2
overflow_sub-start-2 c =
    omega (
      arith,
      start_fits _ _ _ _ _
          c.requires.0
          c.requires.4,
    )

pub put_start-requires : goal.put_start-requires
put_start-requires c =
    omega (
      arith,
      start_fits _ _ _ _ _ c.requires.0
          c.requires.4,
    )

pub returns : goal.returns
returns c =
    let p = c.requires in
    file_put _ _ _ _ _ _ _ _ _ _ _ _ _ p.0 p.1 p.2 p.3 p.4
    c.word_of-root.ensures
    c.entry_at-end.ensures
    c.put_record.ensures
    c.put_copies.ensures
    c.put_blocks.ensures
    c.put_start.ensures
