use mathlib.Core.Path.{refl}
use Rattle.std.proofs.lemmas.Result.{err_from_is_err_and}
use Rattle.reader.specs.TestLaws.{or_stop, or_go}
use Rattle.reader.specs.RefusalLaws.{number_some}
use Rattle.reader.specs.Records.{record_fault}
use Rattle.reader_references.specs.Rows.{class_is}
use Rattle.reader_records.specs.Faults.{words_name}
use Rattle.reader_records.specs.Tables.{looked_before, looked_names, words_small}
use Rattle.reader_records.proofs.faults.record_fault.Goals as goal

pub returns-in_err-words_fault : goal.returns-in_err-words_fault
unfolding record_fault
returns-in_err-words_fault c =
    let p = err_from_is_err_and c.from_residual.result c.from_residual.ensures.1 in
    let why = c.in_err-words_fault.ensures in
    rw (p.1, p.2) (
      or_stop _ _ _ why (number_some _),
      c.requires.7,
      looked_names _ _ _ _ _ (looked_before _ _ (number_some _) (words_small _ _ _ _ why)) c.requires.6,
    )

pub content_fault-requires : goal.content_fault-requires
unfolding record_fault
content_fault-requires c =
    let p = c.requires in (
      p.0.kind_is,
      class_is _ _ _ p.0 _ _ p.1 c.class_in-c.ensures,
      c.name_in-name.ensures,
      p.2,
      p.3,
      p.4,
      p.5,
      p.6,
      words_name _ _ _ _ c.in_ok-words_fault.ensures refl,
      p.7,
    )

pub returns : goal.returns
unfolding record_fault
returns c = let f = c.content_fault.ensures in (or_go _ _ _ _ c.in_ok-words_fault.ensures refl f.0, f.1, f.2)
