use Rattle.reader.specs.Files.{words}
use Rattle.derivation_prepare.specs.Prepared.{prepared_read, prepared_keys}
use Rattle.derivation_prepare.proofs.prepare.prepare.Goals as goal

pub returns-then-reading : goal.returns-then-reading
returns-then-reading c = prepared_read _ _ _ _ _ _ c.if-reading.true c.read_derivation.ensures

pub returns : goal.returns
unfolding words
returns c = prepared_keys _ _ _ _ _ _ c.if-reading.false c.key_records.ensures
