use mathlib.Core.Path.{refl}
use Rattle.std.proofs.lemmas.Result.{err_from_is_err_and}
use Rattle.reader.specs.RefusalLaws.{number_some}
use Rattle.reader_bodies.specs.Places.{second_stop, second_go}
use Rattle.reader_bodies.specs.Tables.{late_root, names_on, weights_on, names_counted, weights_counted}
use Rattle.reader_bodies.proofs.bodies.second_body.Goals as goal

pub returns-in_err-second_records : goal.returns-in_err-second_records
returns-in_err-second_records c =
    let p = c.requires in
    let q = err_from_is_err_and c.from_residual.result c.from_residual.ensures.1 in
    let f = c.in_err-second_records.ensures in
    let w = c.word_of.ensures in
    rw (q.1, q.2) (
      second_stop _ _ _ _ _ _ _ p.0 w refl _ f.0 (number_some _),
      f.1,
      names_counted _ _ _ _ w _ _ f.2,
      weights_counted _ _ _ _ w _ _ _ f.3,
      p.7,
      p.8,
    )

pub returns : goal.returns
returns c =
    let f = c.in_ok-second_records.ensures in
    let g = c.root_and_naming.ensures in
    let w = c.word_of.ensures in
    let late = late_root _ _ _ _ _ _ g.0 in (
      second_go _ _ _ _ _ _ _ c.requires.0 w refl _ f.0 refl _ g.0,
      f.1,
      names_counted _ _ _ _ w _ _ (names_on _ _ _ _ _ refl late _ f.2),
      weights_counted _ _ _ _ w _ _ _ (weights_on _ _ _ _ _ refl late _ _ f.3),
      g.1,
      g.2,
    )
