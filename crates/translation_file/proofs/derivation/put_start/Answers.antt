use Rattle.translation_file.specs.Derivation.{start_put}
use Rattle.translation_file.proofs.derivation.put_start.Goals as goal

pub returns : goal.returns
returns c =
    start_put _ _ _ _ _ _ _ _ _ _ c.requires.0
    c.put_record.ensures
    c.put_record-2.ensures
    c.put_record-3.ensures
    c.put_record-4.ensures
    c.put_record-5.ensures
