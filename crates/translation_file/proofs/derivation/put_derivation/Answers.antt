use native.Mathlib.Omega.{arith}
use mathlib.Core.Path.{◌∙◌}
use Rattle.reader.specs.Files.{words}
use Rattle.translation_file.specs.Derivation.{room_ready, start_fits, file_is, bytes_many, written_is}
use Rattle.translation_file.proofs.derivation.put_derivation.Goals as goal

pub fill_ends-start-requires : goal.fill_ends-start-requires
fill_ends-start-requires c =
    let p = c.requires in let m = c.new-files.ensures.2 ∙ c.word_of-m.ensures in
    (omega (arith, p.few, p.count, m, c.word_of-n.ensures), omega (arith, p.few, p.count, m, c.word_of-n.ensures))

pub put_file-requires : goal.put_file-requires
unfolding words
put_file-requires c =
    let e = c.new-files.ensures in
    let p = c.requires in
    let f = rw (e.0, e.1, e.2) at c.fill_ends-start.ensures in
    rw (e.0, e.1, e.2) (
      room_ready _ _ _ p _ _ c.word_of-m.ensures c.word_of-n.ensures,
      omega (arith, p.whole, c.word_of-n.ensures),
      f.1,
      omega (arith, p.root, c.word_of-m.ensures, c.word_of-n.ensures),
      f.0,
    )

pub overflow_add-result : goal.overflow_add-result
unfolding words
overflow_add-result c =
    let e = c.new-files.ensures in
    let f = rw (e.0, e.1, e.2) at c.fill_ends-start.ensures in
    omega (arith, start_fits _ _ _ _ _ (room_ready _ _ _ c.requires _ _ c.word_of-m.ensures c.word_of-n.ensures) f.0)

pub overflow_sub-result : goal.overflow_sub-result
unfolding words
overflow_sub-result c =
    let e = c.new-files.ensures in
    let f = rw (e.0, e.1, e.2) at c.fill_ends-start.ensures in
    omega (arith, start_fits _ _ _ _ _ (room_ready _ _ _ c.requires _ _ c.word_of-m.ensures c.word_of-n.ensures) f.0)

pub overflow_mul-result : goal.overflow_mul-result
unfolding words
overflow_mul-result c =
    let e = c.new-files.ensures in
    let f = rw (e.0, e.1, e.2) at c.fill_ends-start.ensures in
    omega (arith, start_fits _ _ _ _ _ (room_ready _ _ _ c.requires _ _ c.word_of-m.ensures c.word_of-n.ensures) f.0)

pub returns : goal.returns
unfolding words
returns c =
    let e = c.new-files.ensures in
    let p = c.requires in
    let f = rw (e.0, e.1, e.2) at c.fill_ends-start.ensures in
    record {
      value = written_is _ _ _ p _ _ c.word_of-m.ensures c.word_of-n.ensures _ (bytes_many _ _ _ _ f.0);
      buffer_after = file_is _ _ _ p _ _ c.word_of-m.ensures c.word_of-n.ensures _ (rw (e.0, e.1, e.2) at c.put_file.ensures);
    }
