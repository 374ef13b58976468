use Rattle.reader.specs.TestLaws.{ifs}
use Rattle.reader.specs.Places.{most_records}
use Rattle.reader_headers.proofs.headers.most_records.Goals as goal

pub returns-then-mode : goal.returns-then-mode
unfolding most_records
returns-then-mode c = search ifs

pub returns-then-mode-2 : goal.returns-then-mode-2
unfolding most_records
returns-then-mode-2 c = search ifs

pub returns-else-mode-2 : goal.returns-else-mode-2
unfolding most_records
returns-else-mode-2 c = search ifs
