use Rattle.reader.specs.TestLaws.{ifs}
use Rattle.reader_weights.specs.Weights.{file_of}
use Rattle.reader_records.proofs.faults.file_of.Goals as goal

pub returns-then-mode-eq0 : goal.returns-then-mode-eq0
unfolding file_of
returns-then-mode-eq0 c = search ifs

pub returns-else-mode-eq0 : goal.returns-else-mode-eq0
unfolding file_of
returns-else-mode-eq0 c = search ifs
