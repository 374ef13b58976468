use Rattle.reader.specs.TestLaws.{demands}
use Rattle.reader.specs.Records.{words_fault}
use Rattle.reader_records.proofs.faults.words_fault.Goals as goal

pub returns-then-not-kind_fits : goal.returns-then-not-kind_fits
unfolding words_fault
returns-then-not-kind_fits c = search demands

pub returns-then-not-ranges_fit : goal.returns-then-not-ranges_fit
unfolding words_fault
returns-then-not-ranges_fit c = search demands

pub returns-then-not-references_fit : goal.returns-then-not-references_fit
unfolding words_fault
returns-then-not-references_fit c = search demands

pub returns-then-not-chains_fit : goal.returns-then-not-chains_fit
unfolding words_fault
returns-then-not-chains_fit c = search demands

pub returns : goal.returns
unfolding words_fault
returns c = search demands
