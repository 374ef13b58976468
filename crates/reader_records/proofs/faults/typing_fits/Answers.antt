use Rattle.reader.specs.TestLaws.{ifs}
use Rattle.reader.specs.Records.{typing_fits}
use Rattle.reader_records.proofs.faults.typing_fits.Goals as goal

pub returns-then-mode-eq2 : goal.returns-then-mode-eq2
unfolding typing_fits
returns-then-mode-eq2 c = (search ifs, c.requires.2)

pub returns : goal.returns
unfolding typing_fits
returns c = (search ifs, c.is_typed.ensures.1)
