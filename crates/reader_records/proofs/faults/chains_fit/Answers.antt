use Rattle.reader.specs.TestLaws.{boths}
use Rattle.reader.specs.Records.{chains_fit}
use Rattle.reader_records.proofs.faults.chains_fit.Goals as goal

pub returns-then-not-name_length_fits : goal.returns-then-not-name_length_fits
unfolding chains_fit
returns-then-not-name_length_fits c = search boths

pub returns : goal.returns
unfolding chains_fit
returns c = search boths
